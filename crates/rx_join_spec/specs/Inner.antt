-- What the private functions count on, and what they do.
use Rattle.std.specs.Prelude.{ℕ, ◌+◌, ◌*◌, ◌≤◌, ◌<◌, ◌≡◌, Bool, true, false, cond, List, ◌++◌, length, get_or}
use Rattle.can_frame.specs.declared.Role.TheVariants.{First}
use Rattle.rx_step.specs.declared.Step.{Step}
use Rattle.rx_step.specs.declared.Step.TheVariants.{Ignore, Deliver, Open, Append, Close, Refuse, RefuseAndSwallow, Swallow, SwallowLast}
use Rattle.rx_place_spec.specs.Place.{free_place}
use Rattle.rx_spec.specs.Books.{blank, ignored, no_answer, refuse, finish}
use Rattle.rx_place_spec.specs.State.{State}
use Rattle.rx_spec.specs.Reception.{is_for, bytes_of_place, dropped, opened, appended, closed, swallowed, kept_after_refusal, Joined, joined, join_rule}
use Rattle.rx_place_spec.specs.PlaceBytes.{places_in}
use Rattle.rx_join_spec.specs.declared.Outcome.{Outcome}
use Rattle.rx_join_spec.specs.declared.Outcome.TheVariants as outcome

-- A pool of 72 bytes for each place, and a frame's data.
pub record Lent (bytes d : List ℕ) : Type 0 where
  pub pool : length bytes ≡ 576
  pub payload : length d ≤ 8

-- An unfinished datagram of n bytes in place i, to which the data d of a Last, or some data, can be appended.
pub record Appendable (i n : ℕ) (last : Bool) (bytes d : List ℕ) : Type 0 where
  pub inside : i < 8
  pub held : (get_or (places_in bytes) i free_place).held ≡ true
  pub len : n ≡ (get_or (places_in bytes) i free_place).len
  pub total : n + length d ≤ 72
  pub some : last ≡ false → 0 < length d

-- Place i, which is held for s, is or is not one of a source that is being swallowed.
pub record Own (i s : ℕ) (swallowing : Bool) (bytes : List ℕ) : Type 0 where
  pub inside : i < 8
  pub own : is_for s (get_or (places_in bytes) i free_place) ≡ true
  pub kind : (get_or (places_in bytes) i free_place).swallowing ≡ swallowing

-- What is so where a step is taken for a frame from s with the data d, where place i, if it is there, is that of s,
-- with the length n.
abbrev pub Allowed : Step → ℕ → ℕ → ℕ → List ℕ → List ℕ → Type 0
Allowed Ignore i s n bytes d = Unit {0}
Allowed Deliver i s n bytes d = Unit {0}
Allowed Open i s n bytes d = i < 8 → Own i s true bytes
Allowed Append i s n bytes d = Appendable i n false bytes d
Allowed Close i s n bytes d = Appendable i n true bytes d
Allowed (Refuse refusal) i s n bytes d = Unit {0}
Allowed (RefuseAndSwallow refusal) i s n bytes d = Own i s false bytes
Allowed Swallow i s n bytes d = Own i s true bytes × (n ≡ (get_or (places_in bytes) i free_place).len)
Allowed SwallowLast i s n bytes d = Unit {0}

-- The place of s, if it has one, becomes free.
abbrev pub freed_if : Bool → ℕ → State → State
freed_if unfinished i st = cond unfinished (dropped i st) st

-- What a step does for a frame from s with the data d at the tick `now`, where the place of s, if it is unfinished, is
-- place i.
abbrev pub step_done : Step → Bool → ℕ → ℕ → List ℕ → ℕ → State → Joined
step_done Ignore unfinished s i d now st = joined st ignored
step_done Deliver unfinished s i d now st = joined (freed_if unfinished i st) (finish d)
step_done Open unfinished s i d now st = cond unfinished (joined (opened s d now i st) no_answer) (join_rule First s d now st blank)
step_done Append unfinished s i d now st = joined (appended s d now i st) no_answer
step_done Close unfinished s i d now st = joined (closed d i st) (finish (bytes_of_place i st ++ d))
step_done (Refuse refusal) unfinished s i d now st = joined (freed_if unfinished i st) (refuse refusal)
step_done (RefuseAndSwallow refusal) unfinished s i d now st = joined (kept_after_refusal s i st) (refuse refusal)
step_done Swallow unfinished s i d now st = joined (swallowed s now i st) no_answer
step_done SwallowLast unfinished s i d now st = joined (freed_if unfinished i st) no_answer

-- Where a finished datagram lies, by the step that finished it.
abbrev pub LiesAfter : Step → ℕ → Outcome → Type 0
LiesAfter step i outcome.Ignored = Unit {0}
LiesAfter step i outcome.NoAnswer = Unit {0}
LiesAfter step i (outcome.TransportRefusal refusal) = Unit {0}
LiesAfter step i outcome.InFrame = step ≡ Deliver
LiesAfter step i (outcome.InPool from end) = (step ≡ Close) × (from ≡ 72 * i)
