-- Document 01, "Joining frames", "Cutting", and B9: the frames that a datagram is cut into, and that joining them gives
-- it back.
use Rattle.std.specs.Prelude.{ℕ, ◌-◌, ◌≤◌, ◌≡◌, ◌≢◌, Bool, true, false, cond, not, ◌&&◌, List, [], ◌∷◌, ◌++◌, map, leb, eqb, length, take, drop, replicate}
use Rattle.can_frame.specs.declared.Frame.{Frame}
use Rattle.can_frame.specs.Frame.{CanFrame, can_frame, header_of, frame_of}
use Rattle.rx_place_spec.specs.Ticks.{age}
use Rattle.rx_spec.specs.Books.{Book, blank, holds, swallowing, no_answer, finish}
use Rattle.rx_place_spec.specs.State.{State}
use Rattle.rx_spec.specs.Reception.{sound, full, unfinished_for, receive_all}

-- ---- the frames

-- "0x1A Single, 0x1B First, 0x1C Middle, 0x1D Last": a frame of each kind with the data xs, from the alias s to the
-- alias d.
abbrev pub single : ℕ → ℕ → List ℕ → Frame
single d s xs = frame_of (header_of 0x1A d s) xs

abbrev pub first : ℕ → ℕ → List ℕ → Frame
first d s xs = frame_of (header_of 0x1B d s) xs

abbrev pub middle : ℕ → ℕ → List ℕ → Frame
middle d s xs = frame_of (header_of 0x1C d s) xs

abbrev pub last : ℕ → ℕ → List ℕ → Frame
last d s xs = frame_of (header_of 0x1D d s) xs

-- "the rest is cut by one rule, applied again to what it leaves: of more than 8 bytes the first 8 go in a Middle; 1–8
-- bytes go in a Last." The rest is never empty: a datagram of up to 8 bytes has none.
unfoldable pub rest_frames : ℕ → ℕ → List ℕ → List Frame
rest_frames d s [] = last d s [] ∷ []
rest_frames d s (a ∷ []) = last d s (a ∷ []) ∷ []
rest_frames d s (a ∷ b ∷ []) = last d s (a ∷ b ∷ []) ∷ []
rest_frames d s (a ∷ b ∷ c ∷ []) = last d s (a ∷ b ∷ c ∷ []) ∷ []
rest_frames d s (a ∷ b ∷ c ∷ e ∷ []) = last d s (a ∷ b ∷ c ∷ e ∷ []) ∷ []
rest_frames d s (a ∷ b ∷ c ∷ e ∷ f ∷ []) = last d s (a ∷ b ∷ c ∷ e ∷ f ∷ []) ∷ []
rest_frames d s (a ∷ b ∷ c ∷ e ∷ f ∷ g ∷ []) = last d s (a ∷ b ∷ c ∷ e ∷ f ∷ g ∷ []) ∷ []
rest_frames d s (a ∷ b ∷ c ∷ e ∷ f ∷ g ∷ h ∷ []) = last d s (a ∷ b ∷ c ∷ e ∷ f ∷ g ∷ h ∷ []) ∷ []
rest_frames d s (a ∷ b ∷ c ∷ e ∷ f ∷ g ∷ h ∷ i ∷ []) = last d s (a ∷ b ∷ c ∷ e ∷ f ∷ g ∷ h ∷ i ∷ []) ∷ []
rest_frames d s (a ∷ b ∷ c ∷ e ∷ f ∷ g ∷ h ∷ i ∷ j ∷ more) =
    middle d s (a ∷ b ∷ c ∷ e ∷ f ∷ g ∷ h ∷ i ∷ []) ∷ rest_frames d s (j ∷ more)

-- "up to 8 bytes, none included, go in a Single. Otherwise the first 8 go in a First, and the rest is cut by one rule"
unfoldable pub frames_of : ℕ → ℕ → List ℕ → List Frame
frames_of d s xs = cond (leb (length xs) 8) (single d s xs ∷ []) (first d s (take 8 xs) ∷ rest_frames d s (drop 8 xs))

-- Two numbers that fit the 12 bits of an alias in a header.
abbrev pub aliases : ℕ → ℕ → Bool
aliases a b = leb a 4095 && leb b 4095

-- "B9, in cutting only and tested alone", or that nothing is refused.
pub data CutRefusal : Type 0 where
  b9 : CutRefusal
  cut_allowed : CutRefusal

-- The paper's number, and 0 where nothing is refused.
abbrev pub cut_refusal_number : CutRefusal → ℕ
cut_refusal_number b9 = 9
cut_refusal_number cut_allowed = 0

-- B9: "more than 72 bytes, or an alias over 4,095;
abbrev pub cut_refusal : List ℕ → ℕ → ℕ → CutRefusal
cut_refusal xs d s = cond (leb (length xs) 72 && aliases d s) cut_allowed b9

-- no frame is made."
unfoldable pub cut_frames : List ℕ → ℕ → ℕ → List Frame
cut_frames xs d s = cond (leb (length xs) 72 && aliases d s) (frames_of d s xs) []

-- What the number of frames made stands for: none is B9, and nothing else is.
abbrev pub refusal_of_count : ℕ → CutRefusal
refusal_of_count count = cond (eqb count 0) b9 cut_allowed

-- A cut that makes so many frames is refused with the number of B9 in its cases, and in no others.
abbrev pub RefusedBy : List ℕ → ℕ → ℕ → ℕ → Type 0
RefusedBy xs d s count = cut_refusal_number (refusal_of_count count) ≡ cut_refusal_number (cut_refusal xs d s)

-- ---- cutting and joining

-- A frame as it goes over the bus: its data are the first `len` of its bytes.
abbrev pub carried : Frame → CanFrame
carried f = can_frame f.header (take f.len f.bytes)

-- Ticks of which each is at most 3,000 after the one before it, the first being such after `then`.
abbrev pub PromptAfter : ℕ → List ℕ → Type 0
PromptAfter then [] = Unit {0}
PromptAfter then (now ∷ ticks) = (age now then ≤ 3000) × PromptAfter now ticks

-- The first may be any tick.
abbrev pub Prompt : List ℕ → Type 0
Prompt [] = Unit {0}
Prompt (now ∷ ticks) = PromptAfter now ticks

-- Whether a source may begin a datagram, by whether every place is held and by what the state has for it: nothing,
-- where there is a free place; or only that it is being swallowed, and then the place that is kept for it is its own to
-- use.
abbrev pub may_begin : Bool → Book → Bool
may_begin allHeld blank = not allHeld
may_begin allHeld (holds b) = false
may_begin allHeld swallowing = true

-- Every datagram of at most 72 bytes, cut by the source s for the board and joined there, frame by frame, each at most
-- 3,000 ticks after the one before, is finished as it was at the last frame, and no frame before that is answered: from
-- any state that B7 lets pass in which s may begin a datagram, one in which it is being swallowed too.
abbrev pub CutJoins : Type 0
CutJoins =
    (alias s : ℕ) (xs ticks : List ℕ) (st : State) → length xs ≤ 72 → alias ≤ 4095 → s ≤ 4095 → s ≢ alias → length st.places ≡ 8
    → length st.pool ≡ 576 → sound st.places ≡ true → may_begin (full st.places) (unfinished_for st s) ≡ true
    → length ticks ≡ length (cut_frames xs alias s) → Prompt ticks
    → receive_all alias st ticks (map carried (cut_frames xs alias s)) ≡ replicate (length (cut_frames xs alias s) - 1) no_answer ++ finish xs ∷ []
