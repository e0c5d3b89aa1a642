-- Laws of the decoding of a datagram.
-- Assumes nothing.
use Prim.Native.Nat.{ℕ, ◌-◌, ◌%◌, ◌≤◌, ◌<◌}
use mathlib.Core.Path.{◌≡◌, sym, ap, ◌∙◌}
use mathlib.Core.Bool.{Bool, true, false, not, ◌&&◌, ◌||◌}
use mathlib.Core.List.{List}
use Rattle.std.specs.Prelude.{Ok, Err}
use Rattle.reply_answer.specs.declared.Rejection.{Rejection}
use native.Mathlib.Omega.{arith}
use lib.Dec.{leb, ltb, eqb}
use lib.ListN.{length, get_or, drop, length-drop}
use lib.Seq.{get_or-drop}
use borrow.Author.Tests.{eq-eqb, ne_eqb, lt-ltb, le-ltb, le-leb, leb-true, eqb-true}
use Rattle.buffer.proofs.Choice.{cond-elim, cond_map, and_left, and_right}
use Rattle.cmd_fields.specs.Commands.{Request, read, write, write_masked, options, information, reserve, update_complete, pairs_of, within, kind_of_command, form_in, head_length, space_of, address_of, rest_of}
use Rattle.cmd_decode.specs.Decoding.{Reading, rejected, request, or_wrong, count_of, decode_read, decode_write, decode_masked, decode_kind, decode, request_of, reading_of, of_fixed_length, HeadOf}
use Rattle.cmd_limits.specs.Limits.{count_in, count_fits, bytes_fit, pairs_fit}
use Rattle.cmd_fields.specs.declared.Form.{Form}
use Rattle.cmd_fields.specs.declared.Form.TheVariants.{NoSpace}
use Rattle.cmd_fields.specs.declared.Kind.{Kind}
use Rattle.cmd_fields.specs.declared.Kind.TheVariants.{Read, Write, WriteMasked, Options, Information, Lock, UpdateComplete, Unknown}
use Rattle.cmd_decode.specs.declared.Command.{Command}
use Rattle.cmd_decode.specs.declared.Head.{Head}
use Rattle.reply_answer.specs.declared.Rejection.TheVariants.{InvalidArguments, UnknownDatagramType}
use Rattle.cmd_fields.proofs.Laws.{rest-is, pairs-length}

-- The command of a lock is one of those from 0x80 on, which name no space.
abbrev pub Locks : ℕ → Kind → Type 0
Locks c Read = Unit {0}
Locks c Write = Unit {0}
Locks c WriteMasked = Unit {0}
Locks c Options = Unit {0}
Locks c Information = Unit {0}
Locks c Lock = 0x80 ≤ c
Locks c UpdateComplete = Unit {0}
Locks c Unknown = Unit {0}

pub locks : (c : ℕ) → Locks c (kind_of_command c)
unfolding kind_of_command
locks c =
    cond-elim (Locks c) (within 0x40 0x43 c) (λ _. tt)
    (λ _. cond-elim (Locks c) (within 0x00 0x03 c) (λ _. tt)
    (λ _. cond-elim (Locks c) (within 0x08 0x0B c) (λ _. tt)
    (λ _. cond-elim (Locks c) (eqb c 0x80) (λ _. tt)
    (λ _. cond-elim (Locks c) (eqb c 0x84) (λ _. tt)
    (λ _. cond-elim (Locks c) (eqb c 0x88) (λ e. omega (arith, eqb-true c 0x88 e))
    (λ _. cond-elim (Locks c) (eqb c 0xA8) (λ _. tt) (λ _. tt)))))))

-- the kind that the code finds, by the steps of its finding
pub is-kind : {b c : ℕ} {k m : Kind} → b ≡ c → k ≡ kind_of_command b → k ≡ m → kind_of_command c ≡ m
is-kind e q t = ap kind_of_command (sym e) ∙ sym q ∙ t

-- ---- the remaining bytes

pub rest-lock : (d : List ℕ) → 0x80 ≤ get_or d 1 0 → rest_of d ≡ drop 2 d
unfolding rest_of
rest-lock d h = rw (le-leb 0x80 (get_or d 1 0) h)

-- how many bytes remain
pub remains : (d : List ℕ) {f : Form} {head : ℕ} → f ≡ form_in d → head ≡ head_length f → length d - head ≡ length (rest_of d)
remains d p q = rw (rest-is d, length-drop, ← p, ← q)

-- ---- reads, writes, masked writes: none of them has nothing behind its head

module _ (d : List ℕ) (z : length (rest_of d) ≡ 0) where
  pub read-none : rejected InvalidArguments ≡ decode_read d
  unfolding decode_read
  read-none = rw z

  pub write-none : rejected InvalidArguments ≡ decode_write d
  unfolding decode_write
  write-none = rw z

  pub masked-none : rejected InvalidArguments ≡ decode_masked d
  unfolding decode_masked
  masked-none = rw z

-- ---- reads, writes, masked writes, by their head

module _ (d : List ℕ) (h : Head) (p : HeadOf h d) where
  pub read-length : eqb h.remaining 1 ≡ false → rejected InvalidArguments ≡ decode_read d
  unfolding decode_read
  read-length e = rw (← p.3, e)

  -- the one byte behind the head is the last
  pub not-empty : eqb h.remaining 1 ≡ true → 1 ≤ length d
  not-empty e =
      let l = eqb-true h.remaining 1 e in
      let r = p.3 ∙ ap length (rest-is d) ∙ length-drop _ d in
      omega arith

  last : eqb h.remaining 1 ≡ true → get_or d (length d - 1) 0 ≡ get_or (rest_of d) 0 0
  last e =
      let l = eqb-true h.remaining 1 e in
      let r = p.3 ∙ ap length (rest-is d) ∙ length-drop _ d in
      rw (rest-is d, get_or-drop) (ap (λ i. get_or d i 0) (omega arith))

  module _ (e : eqb h.remaining 1 ≡ true) {count : ℕ} (k : count ≡ count_in (get_or d (length d - 1) 0)) {fits : Bool} (t : fits ≡ count_fits count) where
    counted : count ≡ count_of d
    counted = k ∙ ap count_in (last e)

    pub read-count : fits ≡ false → rejected InvalidArguments ≡ decode_read d
    unfolding decode_read
    read-count w = rw (← p.3, e, ← counted, ← t, w)

    pub read-right : fits ≡ true → request h.form (read h.space h.address count) ≡ decode_read d
    unfolding decode_read
    read-right w = rw (p.0, p.1, p.2, ← p.3, e, ← counted, ← t, w)

  module _ {fits : Bool} (t : fits ≡ bytes_fit h.remaining) where
    pub write-length : fits ≡ false → rejected InvalidArguments ≡ decode_write d
    unfolding decode_write
    write-length w = rw (← p.3, ← t, w)

    pub write-right : fits ≡ true → request h.form (write h.space h.address (rest_of d)) ≡ decode_write d
    unfolding decode_write
    write-right w = rw (p.0, p.1, p.2, ← p.3, ← t, w)

  module _ {fits : Bool} (t : fits ≡ pairs_fit h.remaining) where
    pub masked-length : fits ≡ false → rejected InvalidArguments ≡ decode_masked d
    unfolding decode_masked
    masked-length w = rw (← p.3, ← t, w)

    pub masked-right : fits ≡ true → request h.form (write_masked h.space h.address (pairs_of (rest_of d))) ≡ decode_masked d
    unfolding decode_masked
    masked-right w = rw (p.0, p.1, p.2, ← p.3, ← t, w)

-- a command of a fixed length
pub fixed_reads : (n : ℕ) (d : List ℕ) (c : Command) → reading_of (of_fixed_length n d c) d ≡ or_wrong (eqb (length d) n) (request NoSpace (request_of c (rest_of d)))
fixed_reads n d c = cond_map (λ x. reading_of x d) (eqb (length d) n) (Ok (NoSpace, c)) (Err InvalidArguments)

-- ---- the whole

module _ (d : List ℕ) where
  pub decode-empty : length d ≡ 0 → rejected InvalidArguments ≡ decode d
  unfolding decode
  decode-empty e = rw (eq-eqb (length d) 0 e)

  module _ (z : length d ≡ 0 → ⊥) where
    pub decode-long : 72 < length d → rejected InvalidArguments ≡ decode d
    unfolding decode
    decode-long l = rw (ne_eqb (length d) 0 z, lt-ltb 72 (length d) l)

    module _ (s : length d ≤ 72) where
      pub decode-other : (get_or d 0 0 ≡ 0x20 → ⊥) → rejected UnknownDatagramType ≡ decode d
      unfolding decode
      decode-other t = rw (ne_eqb (length d) 0 z, le-ltb 72 (length d) s, ne_eqb (get_or d 0 0) 0x20 t)

      module _ (t : get_or d 0 0 ≡ 0x20) where
        pub decode-bare : length d ≡ 1 → rejected InvalidArguments ≡ decode d
        unfolding decode
        decode-bare o = rw (ne_eqb (length d) 0 z, le-ltb 72 (length d) s, eq-eqb (get_or d 0 0) 0x20 t, eq-eqb (length d) 1 o)

        pub decode-command : (length d ≡ 1 → ⊥) → decode_kind (kind_of_command (get_or d 1 0)) d ≡ decode d
        unfolding decode
        decode-command o = rw (ne_eqb (length d) 0 z, le-ltb 72 (length d) s, eq-eqb (get_or d 0 0) 0x20 t, ne_eqb (length d) 1 o)

-- ---- what holds of every request that a datagram can make

abbrev pub Allowed : Request → Type 0
Allowed (read s a n) = (1 ≤ n) × (n ≤ 64)
Allowed (write s a bytes) = (1 ≤ length bytes) × (length bytes ≤ 64)
Allowed (write_masked s a pairs) = (1 ≤ length pairs) × (length pairs ≤ 32)
Allowed options = Unit {0}
Allowed (information s) = Unit {0}
Allowed (reserve id) = length id ≡ 6
Allowed update_complete = Unit {0}

abbrev pub AllowedIn : Reading → Type 0
AllowedIn (rejected rejection) = Unit {0}
AllowedIn (request f q) = Allowed q

-- what holds of every rejection, and of every kind of command, holds of a datagram as it is read
pub each_reading : (P : Reading → Type 0) (d : List ℕ) → ((rejection : Rejection) → P (rejected rejection)) → ((k : Kind) → P (decode_kind k d)) → P (decode d)
unfolding decode
each_reading P d r f =
    cond-elim P (eqb (length d) 0 || ltb 72 (length d)) {a = rejected InvalidArguments} (λ _. r InvalidArguments)
    (λ _. cond-elim P (not (eqb (get_or d 0 0) 0x20)) {a = rejected UnknownDatagramType} (λ _. r UnknownDatagramType)
    (λ _. cond-elim P (eqb (length d) 1) {a = rejected InvalidArguments} {b = decode_kind (kind_of_command (get_or d 1 0)) d} (λ _. r InvalidArguments)
    (λ _. f (kind_of_command (get_or d 1 0)))))

or_wrong-allowed : (t : Bool) (f : Form) (q : Request) → (t ≡ true → Allowed q) → AllowedIn (or_wrong t (request f q))
or_wrong-allowed t f q g = cond-elim AllowedIn t g (λ _. tt)

within-true : (low high c : ℕ) → within low high c ≡ true → (low ≤ c) × (c ≤ high)
within-true low high c e = (leb-true low c (and_left (leb low c) _ e), leb-true c high (and_right (leb low c) _ e))

kind-allowed : (k : Kind) (d : List ℕ) → AllowedIn (decode_kind k d)
unfolding decode_kind decode_read decode_write decode_masked
kind-allowed Read d = or_wrong-allowed (eqb (length (rest_of d)) 1 && count_fits (count_of d)) _ (read (space_of (form_in d) d) (address_of d) (count_of d)) (λ e.
    within-true 1 64 (count_of d) (and_right (eqb (length (rest_of d)) 1) _ e))
kind-allowed Write d = or_wrong-allowed (bytes_fit (length (rest_of d))) _ (write (space_of (form_in d) d) (address_of d) (rest_of d)) (λ e. within-true 1 64 (length (rest_of d)) e)
kind-allowed WriteMasked d = or_wrong-allowed (pairs_fit (length (rest_of d))) _ (write_masked (space_of (form_in d) d) (address_of d) (pairs_of (rest_of d))) (λ e.
    let w = within-true 1 64 (length (rest_of d)) (and_left (within 1 64 (length (rest_of d))) _ e) in
    let o = eqb-true (length (rest_of d) % 2) 0 (and_right (within 1 64 (length (rest_of d))) _ e) in
    let n = pairs-length (rest_of d) in
    (omega arith, omega arith))
kind-allowed Options d = or_wrong-allowed (eqb (length d) 2) NoSpace options (λ _. tt)
kind-allowed Information d = or_wrong-allowed (eqb (length d) 3) NoSpace (information (get_or d 2 0)) (λ _. tt)
kind-allowed Lock d = or_wrong-allowed (eqb (length d) 8) NoSpace (reserve (drop 2 d)) (λ e. length-drop 2 d ∙ (let l = eqb-true (length d) 8 e in omega arith))
kind-allowed UpdateComplete d = or_wrong-allowed (eqb (length d) 2) NoSpace update_complete (λ _. tt)
kind-allowed Unknown d = tt

pub allowed : (d : List ℕ) → AllowedIn (decode d)
allowed d = each_reading AllowedIn d (λ _. tt) (λ k. kind-allowed k d)
