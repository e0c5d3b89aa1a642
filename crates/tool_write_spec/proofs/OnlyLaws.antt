-- Laws of the one form as a datagram shows it: the writer's bytes are in it, and no others that the board reads as the same request.
-- Assumes nothing.
use Prim.Native.Nat.{ℕ, ◌+◌, ◌-◌, ◌%◌, ◌≤◌}
use mathlib.Core.Path.{◌≡◌, refl, sym, ap, subst, ◌∙◌}
use mathlib.Core.Bool.{Bool, true, false, not, ◌&&◌, ◌||◌}
use mathlib.Core.List.{List, [], ◌∷◌, ◌++◌}
use native.Mathlib.Omega.{arith}
use lib.Dec.{ltb, eqb}
use lib.ListN.{length, get_or, drop, length-drop}
use borrow.Author.Tests.{lt-ltb, ltb-true, eqb-true, eqb-false, not-false}
use Rattle.buffer.specs.Buffer.{AllBytes}
use Rattle.buffer.proofs.Choice.{cond-elim, and_left, and_right, clash}
use Rattle.cmd_limits.specs.Limits.{count_fits, bytes_fit, pairs_fit}
use Rattle.cmd_fields.specs.Commands.{Request, read, write, write_masked, options, information, reserve, update_complete, within, kind_of_command, with_form, Names, head_bytes, space_of, address_of, head_length, form_in, rest_of}
use Rattle.cmd_fields.specs.declared.Form.{Form}
use Rattle.cmd_fields.specs.declared.Form.TheVariants.{NoSpace, Byte6, Fd, Fe, Ff}
use Rattle.cmd_fields.specs.declared.Kind.{Kind}
use Rattle.cmd_fields.specs.declared.Kind.TheVariants.{Read, Write, WriteMasked, Options, Information, Lock, UpdateComplete, Unknown}
use Rattle.cmd_fields.proofs.Laws.{is_read, is-write, is-masked, not_within, rest-is}
use Rattle.cmd_fields.proofs.HeadLaws.{head_back}
use Rattle.cmd_decode.specs.Decoding.{Reading, rejected, request, count_of, decode_read, decode_write, decode_masked, decode_kind, decode}
use Rattle.reply_answer.specs.declared.Rejection.TheVariants.{InvalidArguments, UnknownDatagramType}
use Rattle.tool_write_spec.specs.Writing.{form_for, opening, pair_bytes, command_for, in_range, space_in_form, reserved_zero, in_one_form, OneForm, EveryRequest}
use Rattle.tool_write_spec.proofs.WritingLaws.{by-byte_6, bits_small, bounds, pairs-bounds, bytes_back, form, rest, read_back, NoShorter, none-shorter, all-in_range}

-- ---- the writer's bytes are in the one form

both : (a b : Bool) → a ≡ true → b ≡ true → (a && b) ≡ true
both a b p q = rw (p, q)

module _ (command s a : ℕ) (content : List ℕ) where
  abbrev Named : Form → Type 0
  Named f = space_in_form f (get_or (head_bytes command f s a ++ content) 6 0) ≡ true

  -- a space that goes by byte 6 is none of the three
  at_six : space_in_form (form_for s) (get_or (opening command s a ++ content) 6 0) ≡ true
  unfolding head_bytes
  at_six =
      cond-elim Named (eqb s 0xFD) (λ _. refl)
      (λ x. cond-elim Named (eqb s 0xFE) (λ _. refl)
      (λ y. cond-elim Named (eqb s 0xFF) (λ _. refl)
      (λ z. ap not (not_within _ _ s (λ p q. omega (arith, eqb-false s 0xFD x, eqb-false s 0xFE y, eqb-false s 0xFF z))))))

  opened-in_form : command ≤ 0x40 → (k : Kind) → kind_of_command (with_form command (form_for s)) ≡ k → reserved_zero k (get_or content 0 0) ≡ true →
      in_one_form (opening command s a ++ content) ≡ true
  unfolding in_one_form head_bytes
  opened-in_form l k e t =
      both (space_in_form (form_in (opening command s a ++ content)) (get_or (opening command s a ++ content) 6 0))
      (reserved_zero (kind_of_command (get_or (opening command s a ++ content) 1 0)) (get_or (rest_of (opening command s a ++ content)) 0 0))
      (ap (λ f. space_in_form f (get_or (opening command s a ++ content) 6 0)) (form command s a content l) ∙ at_six)
      (ap (λ r. reserved_zero (kind_of_command (with_form command (form_for s))) (get_or r 0 0)) (rest command s a content l)
      ∙ ap (λ k. reserved_zero k (get_or content 0 0)) e ∙ t)

in_form_lem : (q : Request) → in_range q ≡ true → in_one_form (command_for q) ≡ true
unfolding in_range command_for in_one_form kind_of_command
in_form_lem (read s a n) h =
    let b = bounds _ _ n h in
    opened-in_form 0x40 s a (n ∷ []) (omega arith) Read (is_read (with_form 0x40 (form_for s)) (omega arith) (omega (arith, bits_small s))) (lt-ltb n _ (omega arith))
in_form_lem (write s a bytes) h = opened-in_form 0x00 s a bytes (omega arith) Write (is-write (with_form 0x00 (form_for s)) (omega (arith, bits_small s))) refl
in_form_lem (write_masked s a pairs) h =
    opened-in_form 0x08 s a (pair_bytes pairs) (omega arith) WriteMasked (is-masked (with_form 0x08 (form_for s)) (omega arith) (omega (arith, bits_small s))) refl
in_form_lem options h = refl
in_form_lem (information s) h = refl
in_form_lem (reserve id) h = refl
in_form_lem update_complete h = refl

-- ---- no others are

-- a space in the one form is named by the form that the writer takes for it
own-form : (f : Form) (d : List ℕ) → Names f (space_of f d) → space_in_form f (get_or d 6 0) ≡ true → form_for (space_of f d) ≡ f
own-form NoSpace d n t = absurd n
own-form Byte6 d n t = by-byte_6 (get_or d 6 0) (λ i. outside i refl) (λ i. outside i refl) (λ i. outside i refl)
  where
    outside : {n : ℕ} → get_or d 6 0 ≡ n → space_in_form Byte6 n ≡ false → ⊥
    outside i w = clash (sym t ∙ ap (space_in_form Byte6) i ∙ w)
own-form Fd d n t = refl
own-form Fe d n t = refl
own-form Ff d n t = refl

opened : (command : ℕ) (d : List ℕ) → get_or d 0 0 ≡ 0x20 → AllBytes d → command % 4 ≡ 0 → command ≤ 0x40 → command ≤ get_or d 1 0 → get_or d 1 0 ≤ command + 3 → 1 ≤ length (rest_of d) →
    space_in_form (form_in d) (get_or d 6 0) ≡ true → d ≡ opening command (space_of (form_in d) d) (address_of d) ++ rest_of d
opened command d z bytes m l low high r t =
    let n : length (rest_of d) ≡ length d - head_length (form_in d) = rw (rest-is d) (length-drop (head_length (form_in d)) d) in
    let b = head_back d bytes z command m (omega arith) low high (omega arith) in
    sym (rw (rest-is d, own-form (form_in d) d b.1 t) b.0)

-- where each command stands
abbrev Stands : ℕ → Kind → Type 0
Stands c Read = (0x40 ≤ c) × (c ≤ 0x43)
Stands c Write = (0x00 ≤ c) × (c ≤ 0x03)
Stands c WriteMasked = (0x08 ≤ c) × (c ≤ 0x0B)
Stands c Options = c ≡ 0x80
Stands c Information = c ≡ 0x84
Stands c Lock = c ≡ 0x88
Stands c UpdateComplete = c ≡ 0xA8
Stands c Unknown = Unit {0}

stands : (c : ℕ) → Stands c (kind_of_command c)
unfolding kind_of_command
stands c =
    cond-elim (Stands c) (within 0x40 0x43 c) (bounds 0x40 0x43 c)
    (λ _. cond-elim (Stands c) (within 0x00 0x03 c) (bounds 0x00 0x03 c)
    (λ _. cond-elim (Stands c) (within 0x08 0x0B c) (bounds 0x08 0x0B c)
    (λ _. cond-elim (Stands c) (eqb c 0x80) (eqb-true c 0x80)
    (λ _. cond-elim (Stands c) (eqb c 0x84) (eqb-true c 0x84)
    (λ _. cond-elim (Stands c) (eqb c 0x88) (eqb-true c 0x88)
    (λ _. cond-elim (Stands c) (eqb c 0xA8) (eqb-true c 0xA8) (λ _. tt)))))))

-- a datagram is the command of what it is read as
abbrev Same : List ℕ → Reading → Type 0
Same d (rejected rejection) = Unit {0}
Same d (request f q) = d ≡ command_for q

two : (d : List ℕ) → length d ≡ 2 → d ≡ get_or d 0 0 ∷ get_or d 1 0 ∷ []
two [] h = absurd (omega arith)
two (a ∷ []) h = absurd (omega arith)
two (a ∷ b ∷ []) h = refl
two (a ∷ b ∷ c ∷ more) h = absurd (omega arith)

three : (d : List ℕ) → length d ≡ 3 → d ≡ get_or d 0 0 ∷ get_or d 1 0 ∷ get_or d 2 0 ∷ []
three [] h = absurd (omega arith)
three (a ∷ []) h = absurd (omega arith)
three (a ∷ b ∷ []) h = absurd (omega arith)
three (a ∷ b ∷ c ∷ []) h = refl
three (a ∷ b ∷ c ∷ e ∷ more) h = absurd (omega arith)

from-two : (d : List ℕ) → 2 ≤ length d → d ≡ get_or d 0 0 ∷ get_or d 1 0 ∷ drop 2 d
from-two [] h = absurd (omega arith)
from-two (a ∷ []) h = absurd (omega arith)
from-two (a ∷ b ∷ more) h = refl

one : (l : List ℕ) → length l ≡ 1 → l ≡ get_or l 0 0 ∷ []
one [] h = absurd (omega arith)
one (a ∷ []) h = refl
one (a ∷ b ∷ more) h = absurd (omega arith)

module _ (d : List ℕ) (z : get_or d 0 0 ≡ 0x20) (bytes : AllBytes d) (t : space_in_form (form_in d) (get_or d 6 0) ≡ true) where
  kind-only : (k : Kind) → Stands (get_or d 1 0) k → reserved_zero k (get_or (rest_of d) 0 0) ≡ true → Same d (decode_kind k d)
  unfolding decode_kind decode_read decode_write decode_masked command_for
  kind-only Read h r = cond-elim (Same d) (eqb (length (rest_of d)) 1 && count_fits (count_of d)) (λ e.
      let n = eqb-true (length (rest_of d)) 1 (and_left (eqb (length (rest_of d)) 1) (count_fits (count_of d)) e) in
      let small : get_or (rest_of d) 0 0 ≡ count_of d = omega (arith, ltb-true (get_or (rest_of d) 0 0) _ r) in
      opened 0x40 d z bytes refl (omega arith) h.0 h.1 (omega arith) t
      ∙ ap (λ (l : List ℕ). opening 0x40 (space_of (form_in d) d) (address_of d) ++ l) (one (rest_of d) n ∙ ap (λ (c : ℕ). c ∷ []) small)) (λ _. tt)
  kind-only Write h r = cond-elim (Same d) (bytes_fit (length (rest_of d))) (λ e.
      let n = bounds 1 64 (length (rest_of d)) e in
      opened 0x00 d z bytes refl (omega arith) h.0 h.1 (omega arith) t) (λ _. tt)
  kind-only WriteMasked h r = cond-elim (Same d) (pairs_fit (length (rest_of d))) (λ e.
      let n = pairs-bounds (length (rest_of d)) e in
      opened 0x08 d z bytes refl (omega arith) h.0 h.1 (omega arith) t
      ∙ ap (λ (l : List ℕ). opening 0x08 (space_of (form_in d) d) (address_of d) ++ l) (sym (bytes_back (rest_of d) n.2))) (λ _. tt)
  kind-only Options h r = cond-elim (Same d) (eqb (length d) 2) (λ e. two d (eqb-true (length d) 2 e) ∙ rw (z, h)) (λ _. tt)
  kind-only Information h r = cond-elim (Same d) (eqb (length d) 3) (λ e. three d (eqb-true (length d) 3 e) ∙ rw (z, h)) (λ _. tt)
  kind-only Lock h r = cond-elim (Same d) (eqb (length d) 8) (λ e. from-two d (omega (arith, eqb-true (length d) 8 e)) ∙ rw (z, h)) (λ _. tt)
  kind-only UpdateComplete h r = cond-elim (Same d) (eqb (length d) 2) (λ e. two d (eqb-true (length d) 2 e) ∙ rw (z, h)) (λ _. tt)
  kind-only Unknown h r = tt

only_one : (d : List ℕ) → AllBytes d → in_one_form d ≡ true → Same d (decode d)
unfolding decode in_one_form
only_one d bytes i =
    let s = and_left (space_in_form (form_in d) (get_or d 6 0)) (reserved_zero (kind_of_command (get_or d 1 0)) (get_or (rest_of d) 0 0)) i in
    let r = and_right (space_in_form (form_in d) (get_or d 6 0)) (reserved_zero (kind_of_command (get_or d 1 0)) (get_or (rest_of d) 0 0)) i in
    cond-elim (Same d) (eqb (length d) 0 || ltb 72 (length d)) {a = rejected InvalidArguments} (λ _. tt)
    (λ _. cond-elim (Same d) (not (eqb (get_or d 0 0) 0x20)) {a = rejected UnknownDatagramType} (λ _. tt)
    (λ z. cond-elim (Same d) (eqb (length d) 1) {a = rejected InvalidArguments} {b = decode_kind (kind_of_command (get_or d 1 0)) d} (λ _. tt)
    (λ _. kind-only d (eqb-true (get_or d 0 0) 0x20 (not-false (eqb (get_or d 0 0) 0x20) z)) bytes s (kind_of_command (get_or d 1 0)) (stands (get_or d 1 0)) r)))

-- ---- the theorems

one_form : (q : Request) → in_range q ≡ true → OneForm q
one_form q h = record {
  read_back = read_back q h;
  unlike = λ p g e. let a = read_back p g in let b = read_back q h in let c = ap decode e in cc;
  shortest = λ d form e. subst (NoShorter d) e (none-shorter d);
  in_form = in_form_lem q h;
  only = λ d form bytes e i. subst (Same d) e (only_one d bytes i);
}

pub every_request : EveryRequest
every_request = record { one_form = one_form; all_in_range = all-in_range }
