-- Source document 004, 4.2 and 4.3, and document 02, C-12: what a tool reads in the content of Received OK and of
-- Rejected, which is what stands behind the aliases.
use Rattle.std.specs.Prelude.{ℕ, ◌+◌, ◌-◌, ◌*◌, ◌%◌, min, Bool, cond, List, leb, length, get_or, Option, Some, None}
use Rattle.tool_read_spec.specs.declared.Span.{Span}
use Rattle.tool_read_spec.specs.Finding.{span}
use Rattle.tool_read_ack.specs.declared.Received.{Received}
use Rattle.tool_read_ack.specs.declared.Rejection.{Rejection}

abbrev pub received : Bool → ℕ → Received
received pending timeout = record { pending = pending; timeout = timeout }

abbrev pub rejection : ℕ → Span → Rejection
rejection code further = record { code = code; further = further }

-- A byte of a content; "missing bits count as zero".
abbrev pub byte_in : List ℕ → ℕ → ℕ
byte_in content i = get_or content i 0

-- Bit 0x80 of the flags announces a reply, the low four bits are the timeout value, and the others are ignored. "W3 for
-- a Received OK over 1 byte".
unfoldable pub read_received : List ℕ → Option Received
read_received content = cond (leb (length content) 1) (Some (received (leb 0x80 (byte_in content 0)) (byte_in content 0 % 16))) None

-- How many bytes of the code there are: further bytes stand behind these.
abbrev pub code_length : List ℕ → ℕ
code_length content = min 2 (length content)

-- Two bytes of code, most significant first, of which one byte is the high one; and then up to 64 further bytes. W3 for
-- "a Rejected over 66".
unfoldable pub read_rejection : List ℕ → Option Rejection
read_rejection content =
    cond (leb (length content) 66)
    (Some (rejection (byte_in content 0 * 256 + byte_in content 1) (span (code_length content) (length content - code_length content)))) None
