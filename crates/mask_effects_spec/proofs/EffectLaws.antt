-- What datagrams do to every content of memory is what one mask and one data byte for each byte do.
-- Assumes nothing.
use Prim.Native.Nat.{ℕ, zero, suc, ◌+◌, ◌≤◌}
use mathlib.Core.Path.{◌≡◌, refl, sym, ap, ◌∙◌}
use mathlib.Core.Bool.{true, false}
use mathlib.Core.List.{List, [], ◌∷◌, ◌++◌, map}
use native.Mathlib.Omega.{arith}
use lib.ListN.{length, length-map}
use Rattle.buffer.specs.Buffer.{AllBytes, Each}
use Rattle.buffer.proofs.Choice.{clash}
use Rattle.call_error.specs.CallErrors.{description_check}
use Rattle.space_table.specs.declared.Space.{Space}
use Rattle.space_lookup.specs.Description.{find_space}
use Rattle.cmd_fields.specs.Commands.{Pair, Request, read, write, write_masked, options, information, reserve, update_complete}
use Rattle.cmd_fields.specs.declared.Form.{Form}
use Rattle.cmd_decode.specs.Decoding.{Reading, rejected, request, decode}
use Rattle.space_reach.specs.Reach.{ReachResult, access, index_of}
use Rattle.space_reach.proofs.Laws.{writes-fit}
use Rattle.reply_answer.specs.Answers.{answer_of, transport_of, ok_flags}
use Rattle.exec_store.specs.Storing.{store_bytes, masked, store_masked}
use Rattle.exec_store.proofs.Laws.{masked-length}
use Rattle.exec_registers.specs.Registers.{registers_at_start}
use Rattle.reply_datagram.specs.Replies.{in_bytes}
use Rattle.exec_spec.specs.Access.{write_result, memory_after}
use Rattle.exec_spec.specs.Performing.{perform}
use Rattle.exec_spec.specs.Handling.{Fixed, Contents, contents, answer_reading, handle}
use Rattle.mask_combine.specs.Combining.{plain, zero_outside, together, keeps_all, AllProper, Effect}
use Rattle.mask_combine.proofs.PairLaws.{mask-small}
use Rattle.mask_combine.proofs.ListLaws.{add_up}
use Rattle.mask_effects_spec.specs.Effects.{PairsWritten, no_write, pairs_from, request_writes, reading_writes, written_by, is_pairs, is_write, reached_by, is_reached, accepted_pairs, is_accepted_write, placed_from, reached_effect, written_effect, effect_of, effect_of_all, contents_after_all, AcceptedWrites, Content, Does, AddsUp, OnGoodBoards}
use Rattle.mask_effects_spec.proofs.StoreLaws.{BytePairs, keeps, bytes-stored, pairs-stored, placed-effect}
use Rattle.mask_effects_spec.proofs.ReadingLaws.{BytesOf, BytesIn, decoded_bytes, ProperPairs, written-proper}
use Rattle.std.specs.Prelude.{Ok, Err}

-- ---- contents

masked-bytes : (e : List Pair) (memory : List ℕ) → AllProper e → AllBytes memory → AllBytes (masked e memory)
unfolding masked
masked-bytes [] memory p h i = h i
masked-bytes (x ∷ e) [] p h i = h i
masked-bytes (x ∷ e) (o ∷ memory) p h zero = mask-small o x (p 0).mask
masked-bytes (x ∷ e) (o ∷ memory) p h (suc i) = masked-bytes e memory (λ j. p (suc j)) (λ j. h (suc j)) i

-- ---- one write, by what it reaches

-- A write stores what its pairs do, wherever it has room.
abbrev Stores : (ℕ → List ℕ → List ℕ) → ℕ → List Pair → Type 0
Stores store m e = (index : ℕ) (memory : List ℕ) → AllBytes memory → length memory ≡ m → index + length e ≤ m → store index memory ≡ masked (placed_from m index e) memory

module _ (m address : ℕ) (e : List Pair) (a : ReachResult) (fits : (s : Space) → a ≡ Ok s → index_of s address + length e ≤ m) where
  reached_effect_lem : AllProper e → Effect m (reached_effect m address e a)
  reached_effect_lem p = go a fits
    where
      go : (a : ReachResult) → ((s : Space) → a ≡ Ok s → index_of s address + length e ≤ m) → Effect m (reached_effect m address e a)
      go (Err failure) f = (add_up m).empty
      go (Ok s) f = placed-effect m (index_of s address) e p (f s refl)

  reached_does : (store : ℕ → List ℕ → List ℕ) → Stores store m e → (memory : List ℕ) → AllBytes memory → length memory ≡ m →
      memory_after store memory address a ≡ masked (reached_effect m address e a) memory
  unfolding memory_after
  reached_does store q memory h k = go a fits
    where
      go : (a : ReachResult) → ((s : Space) → a ≡ Ok s → index_of s address + length e ≤ m) → memory_after store memory address a ≡ masked (reached_effect m address e a) memory
      go (Err failure) f = sym (keeps m memory h)
      go (Ok s) f = q (index_of s address) memory h k (f s refl)

bytes-store : (m : ℕ) (bytes : List ℕ) → AllBytes bytes → Stores (store_bytes bytes) m (map plain bytes)
bytes-store m bytes b index memory h k f = bytes-stored m index bytes memory b h (let l = length-map bytes plain in omega arith)

pairs-store : (m : ℕ) (pairs : List Pair) → BytePairs pairs → Stores (store_masked pairs) m (map zero_outside pairs)
pairs-store m pairs b index memory h k f = pairs-stored m index pairs memory b h (let l = length-map pairs zero_outside in omega arith)

-- ---- one datagram

module _ (x : Fixed) (m : ℕ) (good : description_check x.alias x.spaces (length x.flash) m ≡ Ok tt) where
  fits : (space address : ℕ) (e : List Pair) (s : Space) → reached_by x.spaces space address e ≡ Ok s → index_of s address + length e ≤ m
  fits space address e s q = writes-fit x.alias x.spaces (length x.flash) m space address (length e) s good q

  written-effect : (w : PairsWritten) → ProperPairs w → Effect m (written_effect x.spaces m w)
  written-effect no_write p = (add_up m).empty
  written-effect (pairs_from space address e) p = reached_effect_lem m address e (reached_by x.spaces space address e) (fits space address e) p

  request-does : (c : Contents) → Content m c → (form : Form) (q : Request) → BytesOf q →
      (perform x c form q).contents.memory ≡ masked (written_effect x.spaces m (request_writes q)) c.memory
  unfolding perform
  request-does c k form (read space address count) b = sym (keeps m c.memory k.bytes)
  request-does c k form (write space address bytes) b =
      ap (λ (n : ℕ). memory_after (store_bytes bytes) c.memory address (access true (find_space x.spaces space) address n)) (sym (length-map bytes plain))
      ∙ reached_does m address (map plain bytes) (reached_by x.spaces space address (map plain bytes)) (fits space address (map plain bytes))
      (store_bytes bytes) (bytes-store m bytes b) c.memory k.bytes k.size
  request-does c k form (write_masked space address pairs) b =
      ap (λ (n : ℕ). memory_after (store_masked pairs) c.memory address (access true (find_space x.spaces space) address n)) (sym (length-map pairs zero_outside))
      ∙ reached_does m address (map zero_outside pairs) (reached_by x.spaces space address (map zero_outside pairs)) (fits space address (map zero_outside pairs))
      (store_masked pairs) (pairs-store m pairs b) c.memory k.bytes k.size
  request-does c k form options b = sym (keeps m c.memory k.bytes)
  request-does c k form (information space) b = sym (keeps m c.memory k.bytes)
  request-does c k form (reserve id) b = sym (keeps m c.memory k.bytes)
  request-does c k form update_complete b = sym (keeps m c.memory k.bytes)

  reading_does : (c : Contents) → Content m c → (r : Reading) → BytesIn r →
      (answer_reading x c r).contents.memory ≡ masked (written_effect x.spaces m (reading_writes r)) c.memory
  reading_does c k (rejected rejection) b = sym (keeps m c.memory k.bytes)
  reading_does c k (request form q) b = request-does c k form q b

  pub one-effect : (d : List ℕ) → AllBytes d → Effect m (effect_of x.spaces m d)
  one-effect d b = written-effect (written_by d) (written-proper d b)

  pub one-does : (c : Contents) → Content m c → (d : List ℕ) → AllBytes d → (handle x c d).contents.memory ≡ masked (effect_of x.spaces m d) c.memory
  unfolding handle written_by
  one-does c k d b = reading_does c k (decode d) (decoded_bytes d b)

  pub content_after : (c : Contents) → Content m c → (d : List ℕ) → AllBytes d → Content m (handle x c d).contents
  content_after c k d b =
      let e = one-does c k d b in
      record {
        size = ap (λ (l : List ℕ). length l) e ∙ masked-length (effect_of x.spaces m d) c.memory ∙ k.size;
        bytes = rw e (masked-bytes (effect_of x.spaces m d) c.memory (one-effect d b).proper k.bytes);
      }

  -- ---- a list of them

  pub all-effect : (ds : List (List ℕ)) → Each AllBytes ds → Effect m (effect_of_all x.spaces m ds)
  unfolding effect_of_all
  all-effect [] b = (add_up m).empty
  all-effect (d ∷ ds) b = (add_up m).closed (effect_of x.spaces m d) (effect_of_all x.spaces m ds) (one-effect d b.0) (all-effect ds b.1)

  pub all-do : (ds : List (List ℕ)) → Each AllBytes ds → (c : Contents) → Content m c → (contents_after_all x c ds).memory ≡ masked (effect_of_all x.spaces m ds) c.memory
  unfolding effect_of_all contents_after_all
  all-do [] b c k = sym (keeps m c.memory k.bytes)
  all-do (d ∷ ds) b c k =
      all-do ds b.1 (handle x c d).contents (content_after c k d b.0)
      ∙ ap (masked (effect_of_all x.spaces m ds)) (one-does c k d b.0)
      ∙ sym ((add_up m).in_turn (effect_of x.spaces m d) (effect_of_all x.spaces m ds) c.memory (one-effect d b.0) (all-effect ds b.1) k.size)

  pub all-joined : (ds es : List (List ℕ)) → Each AllBytes ds → Each AllBytes es →
      effect_of_all x.spaces m (ds ++ es) ≡ together (effect_of_all x.spaces m ds) (effect_of_all x.spaces m es)
  unfolding effect_of_all
  all-joined [] es a b = sym ((add_up m).before (effect_of_all x.spaces m es) (all-effect es b))
  all-joined (d ∷ ds) es a b =
      ap (together (effect_of x.spaces m d)) (all-joined ds es a.1 b)
      ∙ sym ((add_up m).groups (effect_of x.spaces m d) (effect_of_all x.spaces m ds) (effect_of_all x.spaces m es) (one-effect d a.0) (all-effect ds a.1) (all-effect es b))

  -- registers for the contents of which only the memory is asked about
  only : (ds : List (List ℕ)) → Each AllBytes ds → (e : List Pair) → Does x m ds e → e ≡ effect_of_all x.spaces m ds
  only ds b e h =
      (add_up m).unique e (effect_of_all x.spaces m ds) h.effect (all-effect ds b)
      (λ memory size bytes.
      let k : Content m (contents memory registers_at_start) = record { size = size; bytes = bytes } in
      sym (h.memory (contents memory registers_at_start) k) ∙ all-do ds b (contents memory registers_at_start) k)

pub adds_up_lem : OnGoodBoards AddsUp
adds_up_lem x m good =
    record {
      does = λ ds b. record { effect = all-effect x m good ds b; memory = all-do x m good ds b };
      only = only x m good;
      joined = all-joined x m good;
    }

-- ---- accepted writes

module _ (form : Form) (space address n : ℕ) where
  write-ok : (a : ReachResult) → is_reached a ≡ true → transport_of (answer_of (in_bytes (write_result form space address n a))) ≡ ok_flags 0x00
  unfolding write_result
  write-ok (Err failure) t = clash (sym t)
  write-ok (Ok s) t = refl

  ok_write : (a : ReachResult) → transport_of (answer_of (in_bytes (write_result form space address n a))) ≡ ok_flags 0x00 → is_reached a ≡ true
  unfolding write_result
  ok_write (Err failure) t = let z : ◌≡◌ {A = ℕ} 0x80 0x00 = cc in absurd (omega arith)
  ok_write (Ok s) t = refl

-- by what the datagram asks for
module _ (x : Fixed) (c : Contents) where
  request-answered : (form : Form) (q : Request) → accepted_pairs x.spaces (request_writes q) ≡ true → transport_of (answer_of (in_bytes (perform x c form q).result)) ≡ ok_flags 0x00
  unfolding perform
  request-answered form (read space address count) t = clash (sym t)
  request-answered form (write space address bytes) t =
      write-ok form space address (length bytes) (access true (find_space x.spaces space) address (length bytes)) (rw (length-map bytes plain) at t)
  request-answered form (write_masked space address pairs) t =
      write-ok form space address (length pairs) (access true (find_space x.spaces space) address (length pairs)) (rw (length-map pairs zero_outside) at t)
  request-answered form options t = clash (sym t)
  request-answered form (information space) t = clash (sym t)
  request-answered form (reserve id) t = clash (sym t)
  request-answered form update_complete t = clash (sym t)

  reading_answered : (r : Reading) → accepted_pairs x.spaces (reading_writes r) ≡ true → transport_of (answer_of (answer_reading x c r).result) ≡ ok_flags 0x00
  reading_answered (rejected rejection) t = clash (sym t)
  reading_answered (request form q) t = request-answered form q t

  request-only : (form : Form) (q : Request) → is_pairs (request_writes q) ≡ true → transport_of (answer_of (in_bytes (perform x c form q).result)) ≡ ok_flags 0x00 →
      accepted_pairs x.spaces (request_writes q) ≡ true
  unfolding perform
  request-only form (read space address count) w t = w
  request-only form (write space address bytes) w t =
      rw (length-map bytes plain) (ok_write form space address (length bytes) (access true (find_space x.spaces space) address (length bytes)) t)
  request-only form (write_masked space address pairs) w t =
      rw (length-map pairs zero_outside) (ok_write form space address (length pairs) (access true (find_space x.spaces space) address (length pairs)) t)
  request-only form options w t = w
  request-only form (information space) w t = w
  request-only form (reserve id) w t = w
  request-only form update_complete w t = w

  reading_only : (r : Reading) → is_pairs (reading_writes r) ≡ true → transport_of (answer_of (answer_reading x c r).result) ≡ ok_flags 0x00 →
      accepted_pairs x.spaces (reading_writes r) ≡ true
  reading_only (rejected rejection) w t = w
  reading_only (request form q) w t = request-only form q w t

  answered : (d : List ℕ) → is_accepted_write x.spaces d ≡ true → transport_of (answer_of (handle x c d).result) ≡ ok_flags 0x00
  unfolding handle written_by
  answered d t = reading_answered (decode d) t

  only_then : (d : List ℕ) → is_write d ≡ true → transport_of (answer_of (handle x c d).result) ≡ ok_flags 0x00 → is_accepted_write x.spaces d ≡ true
  unfolding handle written_by
  only_then d w t = reading_only (decode d) w t

-- by what the datagram writes
module _ (spaces : List Space) where
  pairs-written : (w : PairsWritten) → accepted_pairs spaces w ≡ true → is_pairs w ≡ true
  pairs-written no_write t = t
  pairs-written (pairs_from space address e) t = refl

  unreached : (m address : ℕ) (e : List Pair) (a : ReachResult) → is_reached a ≡ false → reached_effect m address e a ≡ keeps_all m
  unreached m address e (Err failure) t = refl
  unreached m address e (Ok s) t = clash t

  refused : (m : ℕ) (w : PairsWritten) → accepted_pairs spaces w ≡ false → written_effect spaces m w ≡ keeps_all m
  refused m no_write t = refl
  refused m (pairs_from space address e) t = unreached m address e (reached_by spaces space address e) t

pub writes : (spaces : List Space) (d : List ℕ) → is_accepted_write spaces d ≡ true → is_write d ≡ true
writes spaces d t = pairs-written spaces (written_by d) t

pub accepted-writes : AcceptedWrites
accepted-writes = record { writes = writes; answered = answered; only_then = only_then; others = λ spaces m d t. refused spaces m (written_by d) t }
