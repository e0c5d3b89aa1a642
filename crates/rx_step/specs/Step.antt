-- Document 01, "Joining frames", and C-15 of document 02: what a frame does to the datagram of its source.
use Rattle.std.specs.Prelude.{ℕ, ◌+◌, Bool, cond, leb, eqb}
use Rattle.can_frame.specs.declared.Role.{Role}
use Rattle.can_frame.specs.declared.Role.TheVariants.{Ignored, Single, First, Middle, Last}
use Rattle.can_frame.specs.declared.TransportRefusal.TheVariants.{TemporaryError, OutOfOrder}
use Rattle.rx_step.specs.declared.Step.{Step}
use Rattle.rx_step.specs.declared.Step.TheVariants.{Ignore, Deliver, Open, Append, Close, Refuse, RefuseAndSwallow, Swallow, SwallowLast}

-- "Single, none unfinished from that source: a datagram, its own last frame. First: opens one."
-- "Middle or Last with none unfinished: 0x2040", and nothing is kept of it.
abbrev pub step_new : Role → Step
step_new Ignored = Ignore
step_new Single = Deliver
step_new First = Open
step_new Middle = Refuse OutOfOrder
step_new Last = Refuse OutOfOrder

-- For a source that has len bytes unfinished: "Single or First while that source has one unfinished; an empty Middle:
-- 0x2040". "Middle: appends. Last: appends, closes". "An empty Middle is tested before the total." "Middle or Last that
-- takes the total past 72 bytes: 0x2000, dropped." What follows is swallowed, "unless the refused frame was a Last".
abbrev pub step_more : Role → ℕ → ℕ → Step
step_more Ignored len size = Ignore
step_more Single len size = RefuseAndSwallow OutOfOrder
step_more First len size = RefuseAndSwallow OutOfOrder
step_more Middle len size = cond (eqb size 0) (RefuseAndSwallow OutOfOrder) (cond (leb (len + size) 72) Append (RefuseAndSwallow TemporaryError))
step_more Last len size = cond (leb (len + size) 72) Close (Refuse TemporaryError)

-- For a source that is being swallowed: its Middles "are swallowed unanswered, empty ones too, until its next Last,
-- which is swallowed and frees the place. A Single or First frees it and counts as if nothing were unfinished."
abbrev pub step_swallowed : Role → Step
step_swallowed Ignored = Ignore
step_swallowed Single = Deliver
step_swallowed First = Open
step_swallowed Middle = Swallow
step_swallowed Last = SwallowLast

-- By whether the source is unfinished, and is being swallowed then.
unfoldable pub step_of : Role → ℕ → Bool → Bool → ℕ → Step
step_of role size unfinished swallowing len = cond unfinished (cond swallowing (step_swallowed role) (step_more role len size)) (step_new role)
