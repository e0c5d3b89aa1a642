-- Document 01, "The books of demand 3", and C-15 of document 02, whose rules they follow where document 01's differ:
-- the book of a source alias, and what a frame brings about in it. What a book hears of time is in Times.antt.
use Rattle.std.specs.Prelude.{ℕ, ◌+◌, Bool, true, false, cond, List, ◌++◌, leb, eqb, length}
use Rattle.can_frame.specs.declared.Role.{Role}
use Rattle.can_frame.specs.declared.Role.TheVariants.{Ignored, Single, First, Middle, Last}
use Rattle.can_frame.specs.declared.TransportRefusal.{TransportRefusal}
use Rattle.can_frame.specs.declared.TransportRefusal.TheVariants.{OutOfOrder, TemporaryError}
use Rattle.can_frame.specs.Frame.{CanFrame, role_of}

-- "It is blank, as at the start, or holds the bytes joined so far. A datagram opened with zero bytes is held, not
-- blank." Or it has, as the state has, "only that it is being swallowed".
pub data Book : Type 0 where
  blank : Book
  holds : List ℕ → Book
  swallowing : Book

-- "A tool is unfinished while its book holds one.", and "a tool being swallowed is unfinished too".
abbrev pub is_unfinished : Book → Bool
is_unfinished blank = false
is_unfinished (holds b) = true
is_unfinished swallowing = true

-- What a frame brings about: "answered with nothing" where it is ignored; "No answer" where it is joined, and where it
-- is swallowed; "transport refusal", which has a code; "finishes a datagram".
pub data Event : Type 0 where
  ignored : Event
  no_answer : Event
  refuse : TransportRefusal → Event
  finish : List ℕ → Event

-- The book after a frame, and what the frame brings about.
pub record Entry : Type 0 where
  pub book : Book
  pub event : Event

abbrev pub entry : Book → Event → Entry
entry b e = record { book = b; event = e }

-- "at most 72 with them"
abbrev pub fits : List ℕ → List ℕ → Bool
fits b d = leb (length b + length d) 72

-- The rules, by what the frame is to the board, its data, and the book. "A frame that is ignored by the rule under
-- Joining frames changes no book and is answered with nothing." "Single, blank: finishes a datagram, the frame's data;
-- stays blank." "First, blank: holds the frame's data. No answer." "Middle of 1–8 bytes while holding, at most 72 with
-- them: appends. No answer." "over 72: transport refusal 0x2000; blank." "Last while holding, at most 72 with its data:
-- finishes a datagram, the bytes held and then the frame's; blank." "Any other: transport refusal 0x2040; blank.", of a
-- source with nothing unfinished. Of one that holds a datagram: "After 0x2040 or 0x2000 .., unless the refused frame
-- was a Last, its place is kept", and what follows is swallowed. Of one that is being swallowed: its Middles "are
-- swallowed unanswered, empty ones too, until its next Last, which is swallowed and frees the place. A Single or First
-- frees it and counts as if nothing were unfinished."
abbrev pub book_rule : Role → List ℕ → Book → Entry
book_rule Ignored d b = entry b ignored
book_rule Single d blank = entry blank (finish d)
book_rule Single d (holds b) = entry swallowing (refuse OutOfOrder)
book_rule Single d swallowing = entry blank (finish d)
book_rule First d blank = entry (holds d) no_answer
book_rule First d (holds b) = entry swallowing (refuse OutOfOrder)
book_rule First d swallowing = entry (holds d) no_answer
book_rule Middle d blank = entry blank (refuse OutOfOrder)
book_rule Middle d (holds b) =
    cond (eqb (length d) 0) (entry swallowing (refuse OutOfOrder))
    (cond (fits b d) (entry (holds (b ++ d)) no_answer) (entry swallowing (refuse TemporaryError)))
book_rule Middle d swallowing = entry swallowing no_answer
book_rule Last d blank = entry blank (refuse OutOfOrder)
book_rule Last d (holds b) = cond (fits b d) (entry blank (finish (b ++ d))) (entry blank (refuse TemporaryError))
book_rule Last d swallowing = entry blank no_answer

-- A frame entered into a book, at the board's alias.
abbrev pub enter_frame : ℕ → CanFrame → Book → Entry
enter_frame alias f b = book_rule (role_of alias f.header (length f.payload)) f.payload b
