-- C-14 of document 02: what the calls of a list bring, with their times, and the book of each source alias over such a
-- list: "each book hearing every call's time too, a drop being decided by that and its own tool's frames".
use Rattle.std.specs.Prelude.{ℕ, ◌+◌, ◌≤◌, ◌<◌, ◌≡◌, Bool, true, false, cond, List, [], ◌∷◌, ◌++◌, ltb, eqb}
use Rattle.can_frame.specs.Frame.{CanFrame, source_of}
use Rattle.rx_spec.specs.Books.{Book, blank, is_unfinished, Event, ignored, no_answer, refuse, finish, enter_frame}

-- ---- calls

-- What a call brings beside its time: a frame, or nothing more: "one call brings a tick alone".
pub data Input : Type 0 where
  frame_input : CanFrame → Input
  lone_tick : Input

-- With its time.
pub record Timed : Type 0 where
  pub time : ℕ
  pub input : Input

abbrev pub timed : ℕ → Input → Timed
timed t i = record { time = t; input = i }

-- "fewer than 62,000 ticks between calls": from `now` to t.
abbrev pub Near : ℕ → ℕ → Type 0
Near now t = t < now + 62000

-- "their times, which never fall and count on past 65,535", and each near the one before it: the time t may follow on
-- `now`.
abbrev pub Follows : ℕ → ℕ → Type 0
Follows now t = (now ≤ t) × Near now t

-- Each of the times follows on the one before it, and the first on `now`.
abbrev pub TimelyAfter : ℕ → List ℕ → Type 0
TimelyAfter now [] = Unit {0}
TimelyAfter now (t ∷ ts) = Follows now t × TimelyAfter t ts

-- The first may be any time.
abbrev pub Timely : List ℕ → Type 0
Timely [] = Unit {0}
Timely (t ∷ ts) = TimelyAfter t ts

-- ---- calls with pauses, while nothing is unfinished

-- The time of a call, and what each source has unfinished before it.
pub record Moment : Type 0 where
  pub time : ℕ
  pub unfinished : ℕ → Book

abbrev pub moment : ℕ → (ℕ → Book) → Moment
moment t book = record { time = t; unfinished = book }

-- The call at the moment m may follow on one at the time `now`: times "never fall", and it comes near that one where
-- any source has something unfinished. Where none has, any time may pass: the paper asks for fewer than 62,000 ticks
-- there too, so what is shown under this assumption is shown under the paper's.
abbrev pub MayFollow : ℕ → Moment → Type 0
MayFollow now m = (now ≤ m.time) × ((s : ℕ) → is_unfinished (m.unfinished s) ≡ true → Near now m.time)

-- Each of the calls may follow on the one before it, and the first on `now`.
abbrev pub InTimeAfter : ℕ → List Moment → Type 0
InTimeAfter now [] = Unit {0}
InTimeAfter now (m ∷ ms) = MayFollow now m × InTimeAfter m.time ms

-- The first may come at any time.
abbrev pub InTime : List Moment → Type 0
InTime [] = Unit {0}
InTime (m ∷ ms) = InTimeAfter m.time ms

-- ---- a book and its time

-- The book of a source, and the time of that source's last accepted frame, which means nothing while the book is blank.
pub record DatedBook : Type 0 where
  pub book : Book
  pub last : ℕ

abbrev pub dated : Book → ℕ → DatedBook
dated b t = record { book = b; last = t }

-- "blank, as at the start"
abbrev pub start_book : DatedBook
start_book = dated blank 0

-- Whether a frame was accepted, by what it brought about: it was joined, was swallowed or finished a datagram: "For
-- demand 1 and C-14 a swallowed frame counts as accepted, a refused one doesn't." An ignored frame is not accepted.
abbrev pub is_accepted : Event → Bool
is_accepted ignored = false
is_accepted no_answer = true
is_accepted (refuse refusal) = false
is_accepted (finish d) = true

-- "an unfinished datagram whose source's last accepted frame is more than 3,000 ticks back is dropped without an
-- answer; exactly 3,000 stays": the book at the time t. One that is being swallowed grows old as well.
abbrev pub hear_time : ℕ → DatedBook → DatedBook
hear_time t b = dated (cond (ltb (b.last + 3000) t) blank b.book) b.last

-- A frame of its own source at the time t.
abbrev pub hear_frame : ℕ → ℕ → CanFrame → DatedBook → DatedBook
hear_frame alias t f b = let e = enter_frame alias f b.book in dated e.book (cond (is_accepted e.event) t b.last)

-- What the book of s hears of what a call brings: of frames only its own source's.
abbrev pub hear_input : ℕ → ℕ → ℕ → Input → DatedBook → DatedBook
hear_input alias s t (frame_input f) b = cond (eqb (source_of f.header) s) (hear_frame alias t f b) b
hear_input alias s t lone_tick b = b

-- A call: its time first, and then what it brings.
abbrev pub hear_call : ℕ → ℕ → Timed → DatedBook → DatedBook
hear_call alias s c b = hear_input alias s c.time c.input (hear_time c.time b)

abbrev pub hear_calls : ℕ → ℕ → DatedBook → List Timed → DatedBook
hear_calls alias s b [] = b
hear_calls alias s b (c ∷ cs) = hear_calls alias s (hear_call alias s c b) cs

-- "Each source alias has a book. It is fed the board's alias and the headers and data of that source's frames": the
-- book of s after the calls.
unfoldable pub book_of : ℕ → List Timed → ℕ → DatedBook
book_of alias cs s = hear_calls alias s start_book cs

-- The moments of calls behind `past`, by the books: each with what they hold before it.
abbrev pub moments_after : ℕ → List Timed → List Timed → List Moment
moments_after alias past [] = []
moments_after alias past (c ∷ cs) =
    moment c.time (λ s. (book_of alias past s).book) ∷ moments_after alias (past ++ c ∷ []) cs

abbrev pub moments_of : ℕ → List Timed → List Moment
moments_of alias cs = moments_after alias [] cs

-- ---- what the books call for

-- What a call brings about by the book of its frame's source, which has heard the calls before: a lone tick has no
-- answer.
abbrev pub input_event : ℕ → List Timed → ℕ → Input → Event
input_event alias past t (frame_input f) = (enter_frame alias f (hear_time t (book_of alias past (source_of f.header))).book).event
input_event alias past t lone_tick = no_answer

-- The same for each of a list of calls.
abbrev pub events_after : ℕ → List Timed → List Timed → List Event
events_after alias past [] = []
events_after alias past (c ∷ cs) = input_event alias past c.time c.input ∷ events_after alias (past ++ c ∷ []) cs

abbrev pub events_of : ℕ → List Timed → List Event
events_of alias cs = events_after alias [] cs
