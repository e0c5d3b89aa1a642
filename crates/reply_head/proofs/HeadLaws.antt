-- Laws of the first bytes of a reply.
-- Assumes nothing.
use Prim.Native.Nat.{ℕ, ◌+◌, ◌≤◌}
use mathlib.Core.Path.{◌≡◌, refl, sym, ◌∙◌}
use mathlib.Core.List.{List, [], ◌∷◌, ◌++◌}
use native.Mathlib.Omega.{arith}
use lib.ListN.{length, length-append}
use lib.Dec.{leb}
use Rattle.buffer.specs.Buffer.{over, placed}
use Rattle.buffer.proofs.Choice.{cond-elim}
use Rattle.buffer.proofs.Laws.{put_nil, place-over}
use Rattle.buffer.specs.BigEndian.{bytes_of}
use Rattle.cmd_fields.specs.Commands.{with_form, space_byte, head_bytes}
use Rattle.cmd_fields.specs.declared.Form.{Form}
use Rattle.cmd_fields.specs.declared.Form.TheVariants.{NoSpace, Byte6, Fd, Fe, Ff}

-- the space byte put behind six bytes
pub no_byte : (buffer : List ℕ) → buffer ≡ placed 6 [] buffer
unfolding placed
no_byte buffer = cond-elim (λ x. buffer ≡ x) (leb 6 (length buffer)) (λ _. sym (put_nil 6 buffer)) (λ _. refl)

space-length : (form : Form) (m : ℕ) → length (space_byte form m) ≡ length (space_byte form 0)
space-length NoSpace m = refl
space-length Byte6 m = refl
space-length Fd m = refl
space-length Fe m = refl
space-length Ff m = refl

module _ (command : ℕ) (form : Form) (space address n : ℕ) (src buffer : List ℕ) (e : n ≡ 6 + length (space_byte form 0)) where
  head_length_lem : length (head_bytes command form space address) ≡ n
  unfolding head_bytes
  head_length_lem = omega (arith, space-length form space, e)

  pub reply-length : length (head_bytes command form space address ++ src) ≡ n + length src
  reply-length = length-append (head_bytes command form space address) src ∙ rw head_length_lem

  -- the three pieces of a reply
  pub three_pieces : {byte1 : ℕ} {first second third : List ℕ} → n + length src ≤ length buffer → byte1 ≡ with_form command form →
      first ≡ over (0x20 ∷ byte1 ∷ bytes_of address) buffer → second ≡ placed 6 (space_byte form space) first → third ≡ placed n src second →
      third ≡ over (head_bytes command form space address ++ src) buffer
  unfolding head_bytes
  three_pieces {byte1} {first} {second} {third} h b p q r =
      let l = space-length form space in
      let q' : second ≡ over (head_bytes command form space address) buffer =
      q ∙ place-over (0x20 ∷ with_form command form ∷ bytes_of address) (space_byte form space) buffer 6 (p ∙ rw b) refl (omega arith) in
      r ∙ place-over (head_bytes command form space address) src buffer n q' head_length_lem h
