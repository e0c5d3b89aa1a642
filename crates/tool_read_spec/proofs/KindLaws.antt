-- The kind of a reply, by its command.
-- Assumes nothing.
use Prim.Native.Nat.{ℕ, ◌≤◌}
use mathlib.Core.Path.{◌≡◌}
use native.Mathlib.Omega.{arith}
use Rattle.tool_read_spec.specs.Finding.{kind_of_reply}
use Rattle.tool_read_spec.specs.declared.ReplyKind.TheVariants as kind

module _ (c : ℕ) where
  pub is_read : 0x50 ≤ c → c ≤ 0x53 → kind_of_reply c ≡ kind.Read
  unfolding kind_of_reply
  is_read p q = grind arith

  pub is-read-failure : 0x58 ≤ c → c ≤ 0x5B → kind_of_reply c ≡ kind.ReadFailure
  unfolding kind_of_reply
  is-read-failure p q = grind arith

  pub is-written : 0x10 ≤ c → c ≤ 0x13 → kind_of_reply c ≡ kind.WriteDone
  unfolding kind_of_reply
  is-written p q = grind arith

  pub is-write-failure : 0x18 ≤ c → c ≤ 0x1B → kind_of_reply c ≡ kind.WriteFailure
  unfolding kind_of_reply
  is-write-failure p q = grind arith
