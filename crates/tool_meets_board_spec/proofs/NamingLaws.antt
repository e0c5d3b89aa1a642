-- The form in which the board reads a request names the request's space.
-- Assumes nothing.
use Prim.Native.Nat.{ℕ, ◌%◌, ◌<◌}
use mathlib.Core.Path.{refl}
use mathlib.Core.Bool.{Bool, not, ◌&&◌, ◌||◌}
use mathlib.Core.List.{List}
use native.Mathlib.Omega.{arith}
use lib.Dec.{ltb, eqb}
use lib.ListN.{length, get_or, drop}
use borrow.Author.Tests.{lt-leb}
use Rattle.buffer.proofs.Choice.{cond-elim}
use Rattle.cmd_fields.specs.Commands.{Request, read, write, write_masked, options, information, reserve, update_complete, pairs_of, within, kind_of_command, low_form, Names, form_in, space_of, address_of, rest_of}
use Rattle.cmd_fields.specs.declared.Form.{Form}
use Rattle.cmd_fields.specs.declared.Form.TheVariants.{NoSpace, Byte6, Fd, Fe, Ff}
use Rattle.cmd_limits.specs.Limits.{count_fits, bytes_fit, pairs_fit}
use Rattle.cmd_decode.specs.Decoding.{Reading, rejected, request, or_wrong, count_of, decode_read, decode_write, decode_masked, decode_kind, decode}
use Rattle.reply_answer.specs.declared.Rejection.TheVariants.{InvalidArguments, UnknownDatagramType}
use Rattle.tool_read_spec.proofs.SoundLaws.{within-true}

abbrev pub Named : Form → Request → Type 0
Named form (read space address count) = Names form space
Named form (write space address bytes) = Names form space
Named form (write_masked space address pairs) = Names form space
Named form options = Unit {0}
Named form (information space) = Unit {0}
Named form (reserve id) = Unit {0}
Named form update_complete = Unit {0}

abbrev pub NamedIn : Reading → Type 0
NamedIn (rejected rejection) = Unit {0}
NamedIn (request form q) = Named form q

low_names : (d : List ℕ) (low : ℕ) → Names (low_form low) (space_of (low_form low) d)
low_names d low =
    cond-elim (λ f. Names f (space_of f d)) (eqb low 0) {a = Byte6} (λ _. tt)
    (λ _. cond-elim (λ f. Names f (space_of f d)) (eqb low 1) {a = Fd} (λ _. refl)
    (λ _. cond-elim (λ f. Names f (space_of f d)) (eqb low 2) {a = Fe} {b = Ff} (λ _. refl) (λ _. refl)))

names : (d : List ℕ) → get_or d 1 0 < 0x80 → Names (form_in d) (space_of (form_in d) d)
names d h = rw (lt-leb 0x80 (get_or d 1 0) h) (low_names d (get_or d 1 0 % 4))

or_wrong_lem : (t : Bool) (f : Form) (q : Request) → Named f q → NamedIn (or_wrong t (request f q))
or_wrong_lem t f q n = cond-elim NamedIn t {a = request f q} {b = rejected InvalidArguments} (λ _. n) (λ _. tt)

module _ (d : List ℕ) where
  read_named : get_or d 1 0 < 0x80 → NamedIn (decode_read d)
  unfolding decode_read
  read_named h = or_wrong_lem (eqb (length (rest_of d)) 1 && count_fits (count_of d)) (form_in d) (read (space_of (form_in d) d) (address_of d) (count_of d)) (names d h)

  write-named : get_or d 1 0 < 0x80 → NamedIn (decode_write d)
  unfolding decode_write
  write-named h = or_wrong_lem (bytes_fit (length (rest_of d))) (form_in d) (write (space_of (form_in d) d) (address_of d) (rest_of d)) (names d h)

  masked-named : get_or d 1 0 < 0x80 → NamedIn (decode_masked d)
  unfolding decode_masked
  masked-named h = or_wrong_lem (pairs_fit (length (rest_of d))) (form_in d) (write_masked (space_of (form_in d) d) (address_of d) (pairs_of (rest_of d))) (names d h)

  kind-named : NamedIn (decode_kind (kind_of_command (get_or d 1 0)) d)
  unfolding kind_of_command decode_kind
  kind-named =
      let c = get_or d 1 0 in
      cond-elim (λ k. NamedIn (decode_kind k d)) (within 0x40 0x43 c) (λ t. read_named (omega (arith, within-true 0x40 0x43 c t)))
      (λ _. cond-elim (λ k. NamedIn (decode_kind k d)) (within 0x00 0x03 c) (λ t. write-named (omega (arith, within-true 0x00 0x03 c t)))
      (λ _. cond-elim (λ k. NamedIn (decode_kind k d)) (within 0x08 0x0B c) (λ t. masked-named (omega (arith, within-true 0x08 0x0B c t)))
      (λ _. cond-elim (λ k. NamedIn (decode_kind k d)) (eqb c 0x80) (λ _. or_wrong_lem (eqb (length d) 2) NoSpace options tt)
      (λ _. cond-elim (λ k. NamedIn (decode_kind k d)) (eqb c 0x84) (λ _. or_wrong_lem (eqb (length d) 3) NoSpace (information (get_or d 2 0)) tt)
      (λ _. cond-elim (λ k. NamedIn (decode_kind k d)) (eqb c 0x88) (λ _. or_wrong_lem (eqb (length d) 8) NoSpace (reserve (drop 2 d)) tt)
      (λ _. cond-elim (λ k. NamedIn (decode_kind k d)) (eqb c 0xA8) (λ _. or_wrong_lem (eqb (length d) 2) NoSpace update_complete tt) (λ _. tt)))))))

  pub named : NamedIn (decode d)
  unfolding decode
  named =
      cond-elim NamedIn (eqb (length d) 0 || ltb 72 (length d)) {a = rejected InvalidArguments} (λ _. tt)
      (λ _. cond-elim NamedIn (not (eqb (get_or d 0 0) 0x20)) {a = rejected UnknownDatagramType} (λ _. tt)
      (λ _. cond-elim NamedIn (eqb (length d) 1) {a = rejected InvalidArguments} {b = decode_kind (kind_of_command (get_or d 1 0)) d} (λ _. tt) (λ _. kind-named)))
