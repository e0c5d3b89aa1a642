-- Laws of reads, writes and masked writes.
-- Assumes nothing.
use Rattle.std.specs.Prelude.{Ok, Err}
use Prim.Native.Nat.{ℕ}
use mathlib.Core.Path.{◌≡◌, refl, ap, ◌∙◌}
use mathlib.Core.List.{List}
use Rattle.space_table.specs.declared.Space.{Space}
use Rattle.cmd_fields.specs.declared.Form.{Form}
use Rattle.reply_datagram.specs.Replies.{read_reply, failed_read, failed_write, in_bytes, Sends}
use Rattle.reply_answer.specs.Answers.{answer_of, Agrees}
use Rattle.reply_answer.specs.declared.Answer.{Answer}
use Rattle.reply_answer.specs.declared.Answer.TheVariants.{Written}
use Rattle.space_reach.specs.declared.Failure.{Failure}
use Rattle.space_reach.specs.Reach.{ReachResult, code_of, index_of}
use Rattle.exec_store.specs.Storing.{OnlyWithin}
use Rattle.exec_spec.specs.Access.{bytes_read, read_result, write_result, memory_after, Changes, WriteEnds}

-- ---- the answers, by what is reached

module _ (flash memory : List ℕ) (form : Form) (space address count : ℕ) {r : Answer} {before after : List ℕ} where
  pub read-fails : {a : ReachResult} {failure : Failure} {code : ℕ} → a ≡ Err failure → code ≡ code_of failure → Sends (failed_read form space address code) r before after →
      Agrees (in_bytes (read_result flash memory form space address count a)) r before after
  unfolding read_result
  read-fails e k p = rw (e, ← k) p

  pub read-reaches : {a : ReachResult} {s : Space} → a ≡ Ok s → {part : List ℕ} → part ≡ bytes_read flash memory s address count →
      Sends (read_reply form space address part) r before after → Agrees (in_bytes (read_result flash memory form space address count a)) r before after
  unfolding read_result
  read-reaches e q p = rw (e, ← q) p

module _ (store : ℕ → List ℕ → List ℕ) (form : Form) (space address n : ℕ) (memory : List ℕ) where
  pub write-fails : {a : ReachResult} {failure : Failure} {code : ℕ} → a ≡ Err failure → code ≡ code_of failure → {r : Answer} {before after : List ℕ} →
      Sends (failed_write form space address code) r before after → WriteEnds store form space address n a r before after memory memory
  unfolding write_result memory_after
  write-fails e k p = record { answer = rw (e, ← k) p; memory = rw e; changes = rw p.answer refl }

  module _ (within : (index : ℕ) → OnlyWithin index n memory (store index memory)) where
    pub write-reaches : {a : ReachResult} {s : Space} → a ≡ Ok s → {index : ℕ} → index ≡ index_of s address → {buffer stored : List ℕ} →
        stored ≡ store index memory → WriteEnds store form space address n a (Written index n) buffer buffer memory stored
    unfolding write_result memory_after
    write-reaches e i q =
        record {
          answer = rw e (record { answer = ap (λ (k : ℕ). Written k n) i; buffer = refl });
          memory = rw e (q ∙ ap (λ (k : ℕ). store k memory) i);
          changes = rw q (within _);
        }

    -- the same of the definitions alone
    pub write-changes : (a : ReachResult) → Changes (answer_of (in_bytes (write_result form space address n a))) memory (memory_after store memory address a)
    unfolding write_result memory_after
    write-changes (Err failure) = refl
    write-changes (Ok s) = within (index_of s address)
