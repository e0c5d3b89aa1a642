-- C-16 of document 02, "Writes that add up": what a list of datagrams does to every content of memory.
use Rattle.std.specs.Prelude.{ℕ, ◌+◌, ◌-◌, ◌≡◌, Bool, true, false, List, [], ◌∷◌, ◌++◌, map, length, Ok, Err}
use Rattle.buffer.specs.Buffer.{AllBytes, Each}
use Rattle.space_table.specs.declared.Space.{Space}
use Rattle.space_lookup.specs.Description.{find_space}
use Rattle.call_error.specs.CallErrors.{description_check}
use Rattle.cmd_fields.specs.Commands.{Pair, Request, read, write, write_masked, options, information, reserve, update_complete}
use Rattle.cmd_decode.specs.Decoding.{Reading, rejected, request, decode}
use Rattle.space_reach.specs.Reach.{ReachResult, access, index_of}
use Rattle.reply_answer.specs.Answers.{answer_of, transport_of, ok_flags}
use Rattle.exec_store.specs.Storing.{masked}
use Rattle.exec_spec.specs.Handling.{Fixed, Contents, handle}
use Rattle.mask_combine.specs.Combining.{plain, zero_outside, together, keeps_all, Effect}

-- ---- what a datagram writes

-- Nothing, or pairs from an address of a space on.
pub data PairsWritten : Type 0 where
  no_write : PairsWritten
  pairs_from : (space address : ℕ) (pairs : List Pair) → PairsWritten

-- "a plain write having mask 0xFF", "one data byte (zero outside the mask)". No other request writes to memory.
abbrev pub request_writes : Request → PairsWritten
request_writes (read space address count) = no_write
request_writes (write space address bytes) = pairs_from space address (map plain bytes)
request_writes (write_masked space address pairs) = pairs_from space address (map zero_outside pairs)
request_writes options = no_write
request_writes (information space) = no_write
request_writes (reserve id) = no_write
request_writes update_complete = no_write

abbrev pub reading_writes : Reading → PairsWritten
reading_writes (rejected rejection) = no_write
reading_writes (request form q) = request_writes q

unfoldable pub written_by : List ℕ → PairsWritten
written_by d = reading_writes (decode d)

-- Whether it is a write or a masked write at all.
abbrev pub is_pairs : PairsWritten → Bool
is_pairs no_write = false
is_pairs (pairs_from space address pairs) = true

abbrev pub is_write : List ℕ → Bool
is_write d = is_pairs (written_by d)

-- ---- accepted writes: by the described spaces and the datagram, and no content of memory

abbrev pub reached_by : List Space → ℕ → ℕ → List Pair → ReachResult
reached_by spaces space address pairs = access true (find_space spaces space) address (length pairs)

abbrev pub is_reached : ReachResult → Bool
is_reached (Err failure) = false
is_reached (Ok s) = true

abbrev pub accepted_pairs : List Space → PairsWritten → Bool
accepted_pairs spaces no_write = false
accepted_pairs spaces (pairs_from space address pairs) = is_reached (reached_by spaces space address pairs)

-- Whether a datagram is an accepted write or masked write.
abbrev pub is_accepted_write : List Space → List ℕ → Bool
is_accepted_write spaces d = accepted_pairs spaces (written_by d)

-- ---- one mask and one data byte for each byte of memory: by the described spaces, the size m of memory, and the datagrams

-- Pairs for the bytes from an index on, and every other byte of m kept.
abbrev pub placed_from : ℕ → ℕ → List Pair → List Pair
placed_from m index pairs = keeps_all index ++ pairs ++ keeps_all (m - (index + length pairs))

-- A write that reaches a space stands where the space's bytes stand in memory. One that fails does nothing.
abbrev pub reached_effect : ℕ → ℕ → List Pair → ReachResult → List Pair
reached_effect m address pairs (Err failure) = keeps_all m
reached_effect m address pairs (Ok s) = placed_from m (index_of s address) pairs

abbrev pub written_effect : List Space → ℕ → PairsWritten → List Pair
written_effect spaces m no_write = keeps_all m
written_effect spaces m (pairs_from space address pairs) = reached_effect m address pairs (reached_by spaces space address pairs)

-- of one datagram
abbrev pub effect_of : List Space → ℕ → List ℕ → List Pair
effect_of spaces m d = written_effect spaces m (written_by d)

-- of a list of them, each later than the one before
unfoldable pub effect_of_all : List Space → ℕ → List (List ℕ) → List Pair
effect_of_all spaces m [] = keeps_all m
effect_of_all spaces m (d ∷ more) = together (effect_of spaces m d) (effect_of_all spaces m more)

-- ---- datagrams handled whole, each on what the one before left

unfoldable pub contents_after_all : Fixed → Contents → List (List ℕ) → Contents
contents_after_all x c [] = c
contents_after_all x c (d ∷ more) = contents_after_all x (handle x c d).contents more

-- ---- what holds of them

-- A write or masked write is accepted where it is answered with Received OK 0x00, whatever memory and registers hold,
-- and what is not accepted does nothing to memory. (0xA8 is answered so too, and is no write.)
pub record AcceptedWrites : Type 0 where
  pub writes : (spaces : List Space) (d : List ℕ) → is_accepted_write spaces d ≡ true → is_write d ≡ true
  pub answered : (x : Fixed) (c : Contents) (d : List ℕ) → is_accepted_write x.spaces d ≡ true → transport_of (answer_of (handle x c d).result) ≡ ok_flags 0x00
  pub only_then : (x : Fixed) (c : Contents) (d : List ℕ) → is_write d ≡ true → transport_of (answer_of (handle x c d).result) ≡ ok_flags 0x00 → is_accepted_write x.spaces d ≡ true
  pub others : (spaces : List Space) (m : ℕ) (d : List ℕ) → is_accepted_write spaces d ≡ false → effect_of spaces m d ≡ keeps_all m

-- A content of a memory of m bytes, with any registers.
pub record Content (m : ℕ) (c : Contents) : Type 0 where
  pub size : length c.memory ≡ m
  pub bytes : AllBytes c.memory

-- The datagrams ds do to every content of memory what one mask and one data byte for each byte do.
pub record Does (x : Fixed) (m : ℕ) (ds : List (List ℕ)) (e : List Pair) : Type 0 where
  pub effect : Effect m e
  pub memory : (c : Contents) → Content m c → (contents_after_all x c ds).memory ≡ masked e c.memory

-- Of every description without an error, with any flash and a memory of m bytes. The lists may hold
-- datagrams of every kind: reads, refused writes and the like do nothing to memory.
pub record AddsUp (x : Fixed) (m : ℕ) : Type 0 where
  pub does : (ds : List (List ℕ)) → Each AllBytes ds → Does x m ds (effect_of_all x.spaces m ds)
  -- and no other masks and data do the same
  pub only : (ds : List (List ℕ)) → Each AllBytes ds → (e : List Pair) → Does x m ds e → e ≡ effect_of_all x.spaces m ds
  -- "these, put together for two lists, are those of the joined list"
  pub joined : (ds es : List (List ℕ)) → Each AllBytes ds → Each AllBytes es →
      effect_of_all x.spaces m (ds ++ es) ≡ together (effect_of_all x.spaces m ds) (effect_of_all x.spaces m es)

abbrev pub OnGoodBoards : (Fixed → ℕ → Type 0) → Type 0
OnGoodBoards P = (x : Fixed) (m : ℕ) → description_check x.alias x.spaces (length x.flash) m ≡ Ok tt → P x m
