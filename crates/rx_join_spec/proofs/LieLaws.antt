-- Where a finished datagram lies.
-- Assumes nothing.
use mathlib.Core.Path.{◌≡◌, refl, sym, ap, ◌∙◌, subst}
use mathlib.Core.Bool.{Bool, true, false, cond}
use mathlib.Core.List.{List}
use Prim.Native.Nat.{ℕ, ◌+◌}
use lib.Dec.{leb, eqb}
use Rattle.buffer.proofs.Choice.{clash}
use Rattle.can_frame.specs.declared.TransportRefusal.{TransportRefusal}
use Rattle.can_frame.specs.declared.Role.{Role}
use Rattle.can_frame.specs.declared.Role.TheVariants.{Ignored, Single, First, Middle, Last}
use Rattle.can_frame.specs.declared.TransportRefusal.TheVariants.{OutOfOrder, TemporaryError, BufferUnavailable}
use Rattle.rx_step.specs.declared.Step.{Step}
use Rattle.rx_step.specs.declared.Step.TheVariants.{Ignore, Deliver, Open, Append, Close, Refuse, RefuseAndSwallow, Swallow, SwallowLast}
use Rattle.rx_step.specs.Step.{step_of}
use Rattle.rx_spec.specs.Books.{Event, ignored, no_answer, refuse, finish}
use Rattle.rx_place_spec.specs.State.{State}
use Rattle.rx_spec.specs.Reception.{full, free_in, opened, Joined, joined}
use Rattle.rx_join_spec.specs.declared.Outcome.{Outcome}
use Rattle.rx_join_spec.specs.declared.Outcome.TheVariants as outcome
use Rattle.rx_join_spec.specs.Joins.{Lies, Joins}
use Rattle.rx_join_spec.specs.Inner.{step_done, LiesAfter}

-- ---- what finishes nothing

finishes : Event → Bool
finishes ignored = false
finishes no_answer = false
finishes (refuse refusal) = false
finishes (finish d) = true

pub record Unfinishing (e : Event) : Type 0 where
  no : finishes e ≡ false

pub no_answer_lem : Unfinishing no_answer
unfolding finishes
no_answer_lem = record { no = refl }

pub refused : (refusal : TransportRefusal) → Unfinishing (refuse refusal)
unfolding finishes
refused refusal = record { no = refl }

-- a First that is opened, or for which there is no place
pub opening : (unfinished : Bool) (s i : ℕ) (d : List ℕ) (now : ℕ) (st : State) → Unfinishing (step_done Open unfinished s i d now st).event
opening true s i d now st = no_answer_lem
opening false s i d now st = go (full st.places)
  where
    go : (b : Bool) → Unfinishing (cond b (joined st (refuse BufferUnavailable)) (joined (opened s d now (free_in st.places) st) no_answer)).event
    go true = refused BufferUnavailable
    go false = no_answer_lem

pub nowhere : (x : Step) (i : ℕ) (o : Outcome) {j : Joined} {d xs after bytes : List ℕ} → Joins j d o xs after bytes → Unfinishing j.event → LiesAfter x i o
unfolding finishes
nowhere x i outcome.Ignored j u = tt
nowhere x i outcome.NoAnswer j u = tt
nowhere x i (outcome.TransportRefusal refusal) j u = tt
nowhere x i outcome.InFrame j u = clash (ap finishes j.event ∙ u.no)
nowhere x i (outcome.InPool from end) j u = clash (ap finishes j.event ∙ u.no)

-- ---- which frame a step is for

ForFrame : Step → Role → Type 0
ForFrame Ignore role = Unit {0}
ForFrame Deliver role = role ≡ Single
ForFrame Open role = Unit {0}
ForFrame Append role = Unit {0}
ForFrame Close role = role ≡ Last
ForFrame (Refuse refusal) role = Unit {0}
ForFrame (RefuseAndSwallow refusal) role = Unit {0}
ForFrame Swallow role = Unit {0}
ForFrame SwallowLast role = Unit {0}

for_frame : (role : Role) (n : ℕ) (b w : Bool) (l : ℕ) → ForFrame (step_of role n b w l) role
unfolding step_of ForFrame
for_frame Ignored n true false l = tt
for_frame Single n true false l = tt
for_frame First n true false l = tt
for_frame Middle n true false l = go (eqb n 0) (leb (l + n) 72)
  where
    go : (z f : Bool) → ForFrame (cond z (RefuseAndSwallow OutOfOrder) (cond f Append (RefuseAndSwallow TemporaryError))) Middle
    go true f = tt
    go false true = tt
    go false false = tt
for_frame Last n true false l = go (leb (l + n) 72)
  where
    go : (f : Bool) → ForFrame (cond f Close (Refuse TemporaryError)) Last
    go true = refl
    go false = tt
for_frame Ignored n true true l = tt
for_frame Single n true true l = refl
for_frame First n true true l = tt
for_frame Middle n true true l = tt
for_frame Last n true true l = tt
for_frame Ignored n false w l = tt
for_frame Single n false w l = refl
for_frame First n false w l = tt
for_frame Middle n false w l = tt
for_frame Last n false w l = tt

-- where a datagram lies by the step, and so by the frame
pub by-frame : (role : Role) (n : ℕ) (b w : Bool) (l : ℕ) (x : Step) → x ≡ step_of role n b w l → (i : ℕ) (o : Outcome) → LiesAfter x i o → Lies role i o
unfolding ForFrame
by-frame role n b w l x e i outcome.Ignored a = tt
by-frame role n b w l x e i outcome.NoAnswer a = tt
by-frame role n b w l x e i (outcome.TransportRefusal refusal) a = tt
by-frame role n b w l x e i outcome.InFrame a = subst (λ (y : Step). ForFrame y role) (sym e ∙ a) (for_frame role n b w l)
by-frame role n b w l x e i (outcome.InPool from end) a = (subst (λ (y : Step). ForFrame y role) (sym e ∙ a.0) (for_frame role n b w l), a.1)
