-- Of a datagram of bytes, the pairs that it writes are of bytes, and zero outside the mask.
-- Assumes nothing.
use Prim.Native.Nat.{ℕ}
use mathlib.Core.Bool.{Bool, ◌&&◌}
use mathlib.Core.List.{List}
use lib.Dec.{eqb}
use lib.ListN.{length, get_or, drop}
use Rattle.buffer.specs.Buffer.{AllBytes}
use Rattle.buffer.proofs.Choice.{cond-elim}
use Rattle.cmd_limits.specs.Limits.{count_fits, bytes_fit, pairs_fit}
use Rattle.cmd_fields.specs.Commands.{Request, read, write, write_masked, options, information, reserve, update_complete, pairs_of, head_length, form_in, space_of, address_of, rest_of}
use Rattle.cmd_fields.specs.declared.Form.{Form}
use Rattle.cmd_fields.specs.declared.Form.TheVariants.{NoSpace}
use Rattle.cmd_fields.specs.declared.Kind.{Kind}
use Rattle.cmd_fields.specs.declared.Kind.TheVariants.{Read, Write, WriteMasked, Options, Information, Lock, UpdateComplete, Unknown}
use Rattle.cmd_decode.proofs.Laws.{each_reading}
use Rattle.cmd_decode.specs.Decoding.{Reading, rejected, request, or_wrong, count_of, decode_read, decode_write, decode_masked, decode_kind, decode}
use Rattle.mask_combine.specs.Combining.{AllProper}
use Rattle.mask_combine.proofs.ListLaws.{drop-bytes}
use Rattle.mask_effects_spec.specs.Effects.{PairsWritten, no_write, pairs_from, request_writes, reading_writes, written_by}
use Rattle.mask_effects_spec.proofs.StoreLaws.{BytePairs, byte_pairs, plain-proper, outside-proper}

abbrev pub BytesOf : Request → Type 0
BytesOf (read space address count) = Unit {0}
BytesOf (write space address bytes) = AllBytes bytes
BytesOf (write_masked space address pairs) = BytePairs pairs
BytesOf options = Unit {0}
BytesOf (information space) = Unit {0}
BytesOf (reserve id) = Unit {0}
BytesOf update_complete = Unit {0}

abbrev pub BytesIn : Reading → Type 0
BytesIn (rejected rejection) = Unit {0}
BytesIn (request form q) = BytesOf q

or_wrong_lem : (t : Bool) (f : Form) (q : Request) → BytesOf q → BytesIn (or_wrong t (request f q))
or_wrong_lem t f q h = cond-elim BytesIn t (λ _. h) (λ _. tt)

rest-bytes : (d : List ℕ) → AllBytes d → AllBytes (rest_of d)
unfolding rest_of
rest-bytes d h = drop-bytes (head_length (form_in d)) d h

kind-bytes : (k : Kind) (d : List ℕ) → AllBytes d → BytesIn (decode_kind k d)
unfolding decode_kind decode_read decode_write decode_masked
kind-bytes Read d h = or_wrong_lem (eqb (length (rest_of d)) 1 && count_fits (count_of d)) _ (read (space_of (form_in d) d) (address_of d) (count_of d)) tt
kind-bytes Write d h = or_wrong_lem (bytes_fit (length (rest_of d))) _ (write (space_of (form_in d) d) (address_of d) (rest_of d)) (rest-bytes d h)
kind-bytes WriteMasked d h =
    or_wrong_lem (pairs_fit (length (rest_of d))) _ (write_masked (space_of (form_in d) d) (address_of d) (pairs_of (rest_of d))) (byte_pairs (rest_of d) (rest-bytes d h))
kind-bytes Options d h = or_wrong_lem (eqb (length d) 2) NoSpace options tt
kind-bytes Information d h = or_wrong_lem (eqb (length d) 3) NoSpace (information (get_or d 2 0)) tt
kind-bytes Lock d h = or_wrong_lem (eqb (length d) 8) NoSpace (reserve (drop 2 d)) tt
kind-bytes UpdateComplete d h = or_wrong_lem (eqb (length d) 2) NoSpace update_complete tt
kind-bytes Unknown d h = tt

pub decoded_bytes : (d : List ℕ) → AllBytes d → BytesIn (decode d)
decoded_bytes d h = each_reading BytesIn d (λ _. tt) (λ k. kind-bytes k d h)

-- ---- the pairs that it writes

abbrev pub ProperPairs : PairsWritten → Type 0
ProperPairs no_write = Unit {0}
ProperPairs (pairs_from space address pairs) = AllProper pairs

request-proper : (q : Request) → BytesOf q → ProperPairs (request_writes q)
request-proper (read space address count) b = tt
request-proper (write space address bytes) b = plain-proper bytes b
request-proper (write_masked space address pairs) b = outside-proper pairs b
request-proper options b = tt
request-proper (information space) b = tt
request-proper (reserve id) b = tt
request-proper update_complete b = tt

reading_proper : (r : Reading) → BytesIn r → ProperPairs (reading_writes r)
reading_proper (rejected rejection) b = tt
reading_proper (request form q) b = request-proper q b

pub written-proper : (d : List ℕ) → AllBytes d → ProperPairs (written_by d)
unfolding written_by
written-proper d b = reading_proper (decode d) (decoded_bytes d b)
