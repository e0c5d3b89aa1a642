-- Laws of the writer's one form: the board reads it as the request, no two requests share it, and no form of a request is shorter.
-- Assumes nothing.
use Prim.Native.Nat.{ℕ, ◌*◌, ◌-◌, ◌%◌, ◌≤◌, ◌<◌}
use mathlib.Core.Path.{◌≡◌, refl, sym, ap, subst, ◌∙◌}
use mathlib.Core.Bool.{true, not, ◌&&◌, ◌||◌}
use mathlib.Core.List.{List, [], ◌∷◌, ◌++◌}
use native.Mathlib.Omega.{arith}
use lib.Dec.{leb, ltb, eqb}
use lib.ListN.{length, get_or, length-drop}
use borrow.Author.Tests.{eq-eqb, ne_eqb, lt-leb, leb-true, eqb-true}
use Rattle.buffer.proofs.Choice.{cond-elim, and_left, and_right}
use Rattle.cmd_limits.specs.Limits.{count_in, count_fits, bytes_fit, pairs_fit}
use Rattle.cmd_fields.specs.Commands.{Pair, Request, read, write, write_masked, options, information, reserve, update_complete, pairs_of, within, kind_of_command, form_of, form_bits, with_form, Names, head_bytes, space_of, address_of, head_length, form_in, rest_of}
use Rattle.cmd_fields.specs.declared.Form.{Form}
use Rattle.cmd_fields.specs.declared.Form.TheVariants.{Byte6}
use Rattle.cmd_fields.specs.declared.Kind.{Kind}
use Rattle.cmd_fields.specs.declared.Kind.TheVariants.{Read, Write, WriteMasked, Options, Information, Lock, UpdateComplete, Unknown}
use Rattle.cmd_fields.proofs.Laws.{is_read, is-write, is-masked, is_within, rest-is, pairs-length}
use Rattle.cmd_fields.proofs.HeadLaws.{Headed, headed, form_back}
use Rattle.cmd_decode.specs.Decoding.{Reading, rejected, request, or_wrong, count_of, decode_read, decode_write, decode_masked, decode_kind, decode}
use Rattle.reply_answer.specs.declared.Rejection.TheVariants.{InvalidArguments, UnknownDatagramType}
use Rattle.cmd_decode.proofs.Laws.{Allowed, AllowedIn, allowed, decode-command}
use Rattle.tool_write_spec.specs.Writing.{form_for, opening, pair_bytes, command_for, in_range, form_written, AllInRange}

-- ---- the form for a space

-- What holds of the three spaces with control bits of their own, and of every space by byte 6, holds of each space in its form.
by-space : (P : ℕ → Form → Type 0) → P 0xFD (form_for 0xFD) → P 0xFE (form_for 0xFE) → P 0xFF (form_for 0xFF) → ((s : ℕ) → P s Byte6) →
    (s : ℕ) → P s (form_for s)
by-space P fd fe ff other s =
    cond-elim (P s) (eqb s 0xFD) (λ e. rw (eqb-true s 0xFD e) fd)
    (λ _. cond-elim (P s) (eqb s 0xFE) (λ e. rw (eqb-true s 0xFE e) fe)
    (λ _. cond-elim (P s) (eqb s 0xFF) (λ e. rw (eqb-true s 0xFF e) ff) (λ _. other s)))

pub by-byte_6 : (s : ℕ) → (s ≡ 0xFD → ⊥) → (s ≡ 0xFE → ⊥) → (s ≡ 0xFF → ⊥) → form_for s ≡ Byte6
by-byte_6 s fd fe ff = rw (ne_eqb s 0xFD fd, ne_eqb s 0xFE fe, ne_eqb s 0xFF ff)

pub bits_small : (s : ℕ) → form_bits (form_for s) ≤ 3
bits_small = by-space (λ s f. form_bits f ≤ 3) (omega arith) (omega arith) (omega arith) (λ s. omega arith)

pub head_small : (s : ℕ) → head_length (form_for s) ≤ 7
head_small = by-space (λ s f. head_length f ≤ 7) (omega arith) (omega arith) (omega arith) (λ s. omega arith)

-- the form names the space
pub names_for : (s : ℕ) → Names (form_for s) s
names_for = by-space (λ s f. Names f s) refl refl refl (λ s. tt)

-- ---- the bytes of pairs

pub pair-bytes-length : (ps : List Pair) → length (pair_bytes ps) ≡ 2 * length ps
unfolding pair_bytes
pair-bytes-length [] = refl
pair-bytes-length (p ∷ more) = let ih = pair-bytes-length more in omega arith

pairs-back : (ps : List Pair) → pairs_of (pair_bytes ps) ≡ ps
unfolding pair_bytes pairs_of
pairs-back [] = refl
pairs-back (p ∷ more) = ap (λ (ps : List Pair). p ∷ ps) (pairs-back more)

pub bytes_back : (bytes : List ℕ) → length bytes % 2 ≡ 0 → pair_bytes (pairs_of bytes) ≡ bytes
unfolding pair_bytes pairs_of
bytes_back [] e = refl
bytes_back (m ∷ []) e = absurd (omega arith)
bytes_back (m ∷ v ∷ more) e = ap (λ (bytes : List ℕ). m ∷ v ∷ bytes) (bytes_back more (omega arith))

-- ---- a command with an address, read back

module _ (command s a : ℕ) (content : List ℕ) where
  abbrev pub datagram : List ℕ
  datagram = opening command s a ++ content

  pub said : Headed command (form_for s) s a content datagram
  said = headed command (form_for s) s a content (names_for s)

  module _ (l : command ≤ 0x40) where
    pub form : form_in datagram ≡ form_for s
    form = ap form_of said.second ∙ form_back (form_for s) s command (names_for s) (omega arith)

    pub rest : rest_of datagram ≡ content
    rest = rest-is datagram ∙ rw form said.behind

    decoded : length content ≤ 64 → decode datagram ≡ decode_kind (kind_of_command (with_form command (form_for s))) datagram
    unfolding head_bytes
    decoded h = sym (decode-command datagram (λ e. omega arith) (omega (arith, said.size, said.most)) refl (λ e. omega arith))

    -- a command of this kind is read by its form, its space, its address and what remains
    reads : (k : Kind) (by : Form → ℕ → ℕ → List ℕ → Reading) → length content ≤ 64 → kind_of_command (with_form command (form_for s)) ≡ k →
        decode_kind k datagram ≡ by (form_in datagram) (space_of (form_in datagram) datagram) (address_of datagram) (rest_of datagram) →
        decode datagram ≡ by (form_for s) s a content
    reads k by h e p = decoded h ∙ ap (λ (k : Kind). decode_kind k datagram) e ∙ p ∙ rw (form, said.named, said.addressed, rest)

-- ---- the board's reading

pub bounds : (low high n : ℕ) → (leb low n && leb n high) ≡ true → (low ≤ n) × (n ≤ high)
bounds low high n e = (leb-true low n (and_left (leb low n) (leb n high) e), leb-true n high (and_right (leb low n) (leb n high) e))

pub pairs-bounds : (n : ℕ) → pairs_fit n ≡ true → (1 ≤ n) × (n ≤ 64) × (n % 2 ≡ 0)
pairs-bounds n e =
    let b = bounds 1 64 n (and_left (within 1 64 n) (eqb (n % 2) 0) e) in
    (b.0, b.1, eqb-true (n % 2) 0 (and_right (within 1 64 n) (eqb (n % 2) 0) e))

pub read_back : (q : Request) → in_range q ≡ true → decode (command_for q) ≡ request (form_written q) q
unfolding in_range command_for decode decode_kind kind_of_command decode_read decode_write decode_masked
read_back (read s a n) h =
    let b = bounds _ _ n h in
    let e : n % 128 ≡ n = omega arith in
    reads 0x40 s a (n ∷ []) (omega arith) Read
    (λ f s a r. or_wrong (eqb (length r) 1 && count_fits (count_in (get_or r 0 0))) (request f (read s a (count_in (get_or r 0 0)))))
    (omega arith) (is_read (with_form 0x40 (form_for s)) (omega arith) (omega (arith, bits_small s))) refl
    ∙ rw (e, is_within 1 64 n (omega arith) (omega arith))
read_back (write s a bytes) h =
    let b = bounds _ _ (length bytes) h in
    reads 0x00 s a bytes (omega arith) Write (λ f s a r. or_wrong (bytes_fit (length r)) (request f (write s a r)))
    (omega arith) (is-write (with_form 0x00 (form_for s)) (omega (arith, bits_small s))) refl
    ∙ rw (is_within 1 64 (length bytes) (omega arith) (omega arith))
read_back (write_masked s a pairs) h =
    let b = bounds _ _ (length pairs) h in
    let n = pair-bytes-length pairs in
    reads 0x08 s a (pair_bytes pairs) (omega arith) WriteMasked (λ f s a r. or_wrong (pairs_fit (length r)) (request f (write_masked s a (pairs_of r))))
    (omega arith) (is-masked (with_form 0x08 (form_for s)) (omega arith) (omega (arith, bits_small s))) refl
    ∙ rw (is_within 1 64 (length (pair_bytes pairs)) (omega arith) (omega arith), eq-eqb (length (pair_bytes pairs) % 2) 0 (omega arith), pairs-back pairs)
read_back options h = refl
read_back (information s) h = refl
read_back (reserve id) h = let e : length id ≡ 6 = omega (arith, eqb-true) in rw e
read_back update_complete h = refl

-- ---- no form is shorter

-- a command that has an address is one of those below 0x80, whose low two bits choose a space
abbrev Low : ℕ → Kind → Type 0
Low c Read = c < 0x80
Low c Write = c < 0x80
Low c WriteMasked = c < 0x80
Low c Options = Unit {0}
Low c Information = Unit {0}
Low c Lock = Unit {0}
Low c UpdateComplete = Unit {0}
Low c Unknown = Unit {0}

low : (c : ℕ) → Low c (kind_of_command c)
unfolding kind_of_command
low c =
    cond-elim (Low c) (within 0x40 0x43 c) (λ e. omega (arith, bounds 0x40 0x43 c e))
    (λ _. cond-elim (Low c) (within 0x00 0x03 c) (λ e. omega (arith, bounds 0x00 0x03 c e))
    (λ _. cond-elim (Low c) (within 0x08 0x0B c) (λ e. omega (arith, bounds 0x08 0x0B c e))
    (λ _. cond-elim (Low c) (eqb c 0x80) (λ _. tt)
    (λ _. cond-elim (Low c) (eqb c 0x84) (λ _. tt)
    (λ _. cond-elim (Low c) (eqb c 0x88) (λ _. tt)
    (λ _. cond-elim (Low c) (eqb c 0xA8) (λ _. tt) (λ _. tt)))))))

-- the writer's head is no longer than that of a command below 0x80, which may name by byte 6 what has control bits of its own
abbrev Head : List ℕ → Form → Type 0
Head d f = head_length (form_for (space_of f d)) ≤ head_length f

head_least : (d : List ℕ) → get_or d 1 0 < 0x80 → Head d (form_in d)
head_least d h = rw (lt-leb 0x80 (get_or d 1 0) h)
    (cond-elim (Head d) (eqb (get_or d 1 0 % 4) 0) (λ _. head_small (get_or d 6 0))
    (λ _. cond-elim (Head d) (eqb (get_or d 1 0 % 4) 1) (λ _. omega arith)
    (λ _. cond-elim (Head d) (eqb (get_or d 1 0 % 4) 2) (λ _. omega arith) (λ _. omega arith))))

-- so is the whole command, if what stands behind its head is no longer than what remains
with_address : (command a : ℕ) (content d : List ℕ) → get_or d 1 0 < 0x80 → 1 ≤ length (rest_of d) → length content ≤ length (rest_of d) →
    length (opening command (space_of (form_in d) d) a ++ content) ≤ length d
with_address command a content d h r c =
    let n : length (rest_of d) ≡ length d - head_length (form_in d) = rw (rest-is d) (length-drop (head_length (form_in d)) d) in
    omega (arith, (said command (space_of (form_in d) d) a content).size, head_least d h)

abbrev pub NoShorter : List ℕ → Reading → Type 0
NoShorter d (rejected rejection) = Unit {0}
NoShorter d (request f q) = length (command_for q) ≤ length d

kind-shortest : (d : List ℕ) (k : Kind) → Low (get_or d 1 0) k → NoShorter d (decode_kind k d)
unfolding decode_kind decode_read decode_write decode_masked command_for
kind-shortest d Read h = cond-elim (NoShorter d) (eqb (length (rest_of d)) 1 && count_fits (count_of d)) (λ e.
    let n = eqb-true (length (rest_of d)) 1 (and_left (eqb (length (rest_of d)) 1) (count_fits (count_of d)) e) in
    with_address 0x40 (address_of d) (count_of d ∷ []) d h (omega arith) (omega arith)) (λ _. tt)
kind-shortest d Write h = cond-elim (NoShorter d) (bytes_fit (length (rest_of d))) (λ e.
    let n = bounds 1 64 (length (rest_of d)) e in
    with_address 0x00 (address_of d) (rest_of d) d h (omega arith) (omega arith)) (λ _. tt)
kind-shortest d WriteMasked h = cond-elim (NoShorter d) (pairs_fit (length (rest_of d))) (λ e.
    let n = pairs-bounds (length (rest_of d)) e in
    with_address 0x08 (address_of d) (pair_bytes (pairs_of (rest_of d))) d h (omega arith)
    (omega (arith, pair-bytes-length (pairs_of (rest_of d)), pairs-length (rest_of d)))) (λ _. tt)
kind-shortest d Options h = cond-elim (NoShorter d) (eqb (length d) 2) (λ e. omega (arith, eqb-true (length d) 2 e)) (λ _. tt)
kind-shortest d Information h = cond-elim (NoShorter d) (eqb (length d) 3) (λ e. omega (arith, eqb-true (length d) 3 e)) (λ _. tt)
kind-shortest d Lock h = cond-elim (NoShorter d) (eqb (length d) 8) (λ e. omega (arith, eqb-true (length d) 8 e, length-drop 2 d)) (λ _. tt)
kind-shortest d UpdateComplete h = cond-elim (NoShorter d) (eqb (length d) 2) (λ e. omega (arith, eqb-true (length d) 2 e)) (λ _. tt)
kind-shortest d Unknown h = tt

pub none-shorter : (d : List ℕ) → NoShorter d (decode d)
unfolding decode
none-shorter d =
    cond-elim (NoShorter d) (eqb (length d) 0 || ltb 72 (length d)) {a = rejected InvalidArguments} (λ _. tt)
    (λ _. cond-elim (NoShorter d) (not (eqb (get_or d 0 0) 0x20)) {a = rejected UnknownDatagramType} (λ _. tt)
    (λ _. cond-elim (NoShorter d) (eqb (length d) 1) {a = rejected InvalidArguments} {b = decode_kind (kind_of_command (get_or d 1 0)) d} (λ _. tt)
    (λ _. kind-shortest d (kind_of_command (get_or d 1 0)) (low (get_or d 1 0)))))

-- ---- in range

-- what the board allows is in range
in_range_lem : (q : Request) → Allowed q → in_range q ≡ true
unfolding in_range
in_range_lem (read s a n) h = is_within _ _ n (omega arith) (omega arith)
in_range_lem (write s a bytes) h = is_within _ _ (length bytes) (omega arith) (omega arith)
in_range_lem (write_masked s a pairs) h = is_within _ _ (length pairs) (omega arith) (omega arith)
in_range_lem options h = refl
in_range_lem (information s) h = refl
in_range_lem (reserve id) h = search eq-eqb
in_range_lem update_complete h = refl

pub all-in_range : AllInRange
all-in_range d form q e = in_range_lem q (subst AllowedIn e (allowed d))
