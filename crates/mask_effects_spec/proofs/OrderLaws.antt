-- Writes that touch no common bit may come in any order.
-- Assumes nothing.
use Prim.Native.Nat.{ℕ, zero, suc}
use mathlib.Core.Path.{◌≡◌, refl, sym, ap, ap₂, ◌∙◌}
use mathlib.Core.Bool.{true}
use mathlib.Core.List.{List, [], ◌∷◌, ◌++◌}
use lib.Bits.{bit_and}
use lib.ListN.{length, get_or}
use Rattle.buffer.specs.Buffer.{AllBytes, Each}
use Rattle.buffer.proofs.Choice.{clash}
use Rattle.call_error.specs.CallErrors.{description_check}
use Rattle.cmd_fields.specs.Commands.{Request, read, write, write_masked, options, information, reserve, update_complete}
use Rattle.cmd_fields.specs.declared.Form.{Form}
use Rattle.cmd_decode.specs.Decoding.{Reading, rejected, request, decode}
use Rattle.reply_answer.specs.Answers.{Result}
use Rattle.exec_store.specs.Storing.{masked}
use Rattle.reply_datagram.specs.Replies.{in_bytes}
use Rattle.exec_spec.specs.Performing.{perform}
use Rattle.exec_spec.specs.Handling.{Fixed, Contents, contents, answer_reading, handle}
use Rattle.mask_combine.specs.Combining.{untouched, together, keeps_all, NoCommonBit}
use Rattle.mask_combine.proofs.ListLaws.{add_up}
use Rattle.mask_effects_spec.specs.Effects.{request_writes, reading_writes, written_by, is_pairs, is_write, effect_of, effect_of_all, contents_after_all, Content}
use Rattle.mask_effects_spec.specs.AnyOrder.{Apart, TwoWrites, Interleaved, none, left, right, results_of, AllApart, Interleaves, WritesAddUp}
use Rattle.mask_effects_spec.proofs.EffectLaws.{one-effect, all-effect, all-do, all-joined, adds_up_lem, writes, accepted-writes}
use Rattle.std.specs.Prelude.{Ok}

-- ---- a write is answered by the description alone, and leaves the registers

module _ (x : Fixed) where
  request-same : (c k : Contents) (form : Form) (q : Request) → is_pairs (request_writes q) ≡ true → (perform x c form q).result ≡ (perform x k form q).result
  unfolding perform
  request-same c k form (read space address count) w = clash (sym w)
  request-same c k form (write space address bytes) w = refl
  request-same c k form (write_masked space address pairs) w = refl
  request-same c k form options w = refl
  request-same c k form (information space) w = refl
  request-same c k form (reserve id) w = clash (sym w)
  request-same c k form update_complete w = refl

  reading_same : (c k : Contents) (r : Reading) → is_pairs (reading_writes r) ≡ true → (answer_reading x c r).result ≡ (answer_reading x k r).result
  reading_same c k (rejected rejection) w = refl
  reading_same c k (request form q) w = ap in_bytes (request-same c k form q w)

  same-reply : (c k : Contents) (d : List ℕ) → is_write d ≡ true → (handle x c d).result ≡ (handle x k d).result
  unfolding handle written_by
  same-reply c k d w = reading_same c k (decode d) w

  request-registers : (c : Contents) (form : Form) (q : Request) → is_pairs (request_writes q) ≡ true → (perform x c form q).contents.registers ≡ c.registers
  unfolding perform
  request-registers c form (read space address count) w = refl
  request-registers c form (write space address bytes) w = refl
  request-registers c form (write_masked space address pairs) w = refl
  request-registers c form options w = refl
  request-registers c form (information space) w = refl
  request-registers c form (reserve id) w = clash (sym w)
  request-registers c form update_complete w = refl

  reading_registers : (c : Contents) (r : Reading) → is_pairs (reading_writes r) ≡ true → (answer_reading x c r).contents.registers ≡ c.registers
  reading_registers c (rejected rejection) w = refl
  reading_registers c (request form q) w = request-registers c form q w

  same-registers : (c : Contents) (d : List ℕ) → is_write d ≡ true → (handle x c d).contents.registers ≡ c.registers
  unfolding handle written_by
  same-registers c d w = reading_registers c (decode d) w

  all-registers : (c : Contents) (ds : List (List ℕ)) → Each (λ (d : List ℕ). is_write d ≡ true) ds → (contents_after_all x c ds).registers ≡ c.registers
  unfolding contents_after_all
  all-registers c [] w = refl
  all-registers c (d ∷ ds) w = all-registers (handle x c d).contents ds w.1 ∙ same-registers c d w.0

  -- so are many, whatever they are handled on
  all_same : (c k : Contents) (ds : List (List ℕ)) → Each (λ (d : List ℕ). is_write d ≡ true) ds → results_of x c ds ≡ results_of x k ds
  unfolding results_of
  all_same c k [] w = refl
  all_same c k (d ∷ ds) w = ap₂ (λ r l. r ∷ l) (same-reply c k d w.0) (all_same (handle x c d).contents (handle x k d).contents ds w.1)

  own-replies : (c : Contents) {ds es fs : List (List ℕ)} → Interleaved (List ℕ) ds es fs → Each (λ (d : List ℕ). is_write d ≡ true) ds → Each (λ (e : List ℕ). is_write e ≡ true) es →
      Interleaved Result (results_of x c ds) (results_of x c es) (results_of x c fs)
  unfolding results_of
  own-replies c none w v = none
  own-replies c (left {a = d} {seconds} i) w v =
      left (rw (all_same (handle x c d).contents c seconds v) at (own-replies (handle x c d).contents i w.1 v))
  own-replies c (right {b = e} {firsts} i) w v =
      right (rw (all_same (handle x c e).contents c firsts w) at (own-replies (handle x c e).contents i w v.1))

-- ---- two writes

module _ (x : Fixed) (m : ℕ) (good : description_check x.alias x.spaces (length x.flash) m ≡ Ok tt) where
  two_effects : (d e : List ℕ) → AllBytes d → AllBytes e → effect_of_all x.spaces m (d ∷ e ∷ []) ≡ together (effect_of x.spaces m d) (effect_of x.spaces m e)
  unfolding effect_of_all
  two_effects d e a b = ap (together (effect_of x.spaces m d)) ((add_up m).behind (effect_of x.spaces m e) (one-effect x m good e b))

  two_memory : (c : Contents) (d e : List ℕ) → Content m c → AllBytes d → AllBytes e → Apart x.spaces m d e →
      (contents_after_all x c (d ∷ e ∷ [])).memory ≡ (contents_after_all x c (e ∷ d ∷ [])).memory
  two_memory c d e k a b apart =
      all-do x m good (d ∷ e ∷ []) (a, (b, tt)) c k
      ∙ ap (λ l. masked l c.memory) (two_effects d e a b
      ∙ (add_up m).either_order (effect_of x.spaces m d) (effect_of x.spaces m e) (one-effect x m good d a) (one-effect x m good e b) apart
      ∙ sym (two_effects e d b a))
      ∙ sym (all-do x m good (e ∷ d ∷ []) (b, (a, tt)) c k)

  two_writes_lem : TwoWrites x m
  two_writes_lem c d e k a b p q apart =
      let w = writes x.spaces d p in
      let v = writes x.spaces e q in
      record {
        contents = ap₂ contents (two_memory c d e k a b apart) (all-registers x c (d ∷ e ∷ []) (w, (v, tt)) ∙ sym (all-registers x c (e ∷ d ∷ []) (v, (w, tt))));
        reply_to_first = same-reply x (handle x c e).contents c d w;
        reply_to_second = same-reply x (handle x c d).contents c e v;
      }

  -- ---- lists of them

  nothing-mask : (n i : ℕ) → (get_or (keeps_all n) i untouched).mask ≡ 0
  nothing-mask zero i = refl
  nothing-mask (suc n) zero = refl
  nothing-mask (suc n) (suc i) = nothing-mask n i

  apart-all : (ds : List (List ℕ)) (e : List ℕ) (es : List (List ℕ)) → Each AllBytes ds → AllBytes e → AllApart x.spaces m ds (e ∷ es) →
      NoCommonBit (effect_of_all x.spaces m ds) (effect_of x.spaces m e)
  unfolding effect_of_all
  apart-all [] e es a b h = λ i. ap (λ (k : ℕ). bit_and k (get_or (effect_of x.spaces m e) i untouched).mask) (nothing-mask m i)
  apart-all (d ∷ ds) e es a b h =
      (add_up m).apart (effect_of x.spaces m d) (effect_of_all x.spaces m ds) (effect_of x.spaces m e)
      (one-effect x m good d a.0) (all-effect x m good ds a.1) (one-effect x m good e b) h.0.0 (apart-all ds e es a.1 b h.1)

  without : (ds : List (List ℕ)) (e : List ℕ) (es : List (List ℕ)) → AllApart x.spaces m ds (e ∷ es) → AllApart x.spaces m ds es
  without [] e es h = tt
  without (d ∷ ds) e es h = (h.0.1, without ds e es h.1)

  interleaved_effect : {ds es fs : List (List ℕ)} → Interleaved (List ℕ) ds es fs → Each AllBytes ds → Each AllBytes es → AllApart x.spaces m ds es →
      effect_of_all x.spaces m fs ≡ together (effect_of_all x.spaces m ds) (effect_of_all x.spaces m es)
  unfolding effect_of_all
  interleaved_effect none a b h = sym ((add_up m).before (keeps_all m) (add_up m).empty)
  interleaved_effect (left {a = d} {firsts = ds} {seconds = es} i) a b h =
      ap (together (effect_of x.spaces m d)) (interleaved_effect i a.1 b h.1)
      ∙ sym ((add_up m).groups (effect_of x.spaces m d) (effect_of_all x.spaces m ds) (effect_of_all x.spaces m es) (one-effect x m good d a.0) (all-effect x m good ds a.1) (all-effect x m good es b))
  interleaved_effect (right {b = e} {firsts = ds} {seconds = es} i) a b h =
      let one = one-effect x m good e b.0 in
      let firsts = all-effect x m good ds a in
      let rest = all-effect x m good es b.1 in
      let here = effect_of x.spaces m e in
      let before = effect_of_all x.spaces m ds in
      let behind = effect_of_all x.spaces m es in
      ap (together here) (interleaved_effect i a b.1 (without ds e es h))
      ∙ sym ((add_up m).groups here before behind one firsts rest)
      ∙ ap (λ l. together l behind) (sym ((add_up m).either_order before here firsts one (apart-all ds e es a b.0 h)))
      ∙ (add_up m).groups before here behind firsts one rest

  all-bytes : {ds es fs : List (List ℕ)} → Interleaved (List ℕ) ds es fs → Each AllBytes ds → Each AllBytes es → Each AllBytes fs
  all-bytes none a b = tt
  all-bytes (left i) a b = (a.0, all-bytes i a.1 b)
  all-bytes (right i) a b = (b.0, all-bytes i a b.1)

  one-then_other : (ds es : List (List ℕ)) → Each AllBytes ds → Each AllBytes es → Each AllBytes (ds ++ es)
  one-then_other [] es a b = b
  one-then_other (d ∷ ds) es a b = (a.0, one-then_other ds es a.1 b)

  interleaves : Interleaves x m
  interleaves c ds es fs k a b h i =
      all-do x m good fs (all-bytes i a b) c k
      ∙ ap (λ l. masked l c.memory) (interleaved_effect i a b h ∙ sym (all-joined x m good ds es a b))
      ∙ sym (all-do x m good (ds ++ es) (one-then_other ds es a b) c k)

pub writes-add_up : WritesAddUp
writes-add_up =
    record {
      pairs = add_up;
      accepted = accepted-writes;
      adds_up = adds_up_lem;
      two_writes = two_writes_lem;
      interleaves = interleaves;
      own_replies = record { replies = λ x c ds es fs w v i. own-replies x c i w v; registers = all-registers };
    }
