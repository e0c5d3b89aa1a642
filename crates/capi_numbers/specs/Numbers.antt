-- The numbers of a call's result, for a caller in C.
use Rattle.std.specs.Prelude.{ℕ, ◌/◌, ◌%◌, min, List, [], ◌∷◌, ◌++◌}
use Rattle.buffer.specs.LittleEndian.{least_first}
use Rattle.capi_numbers.specs.declared.CallResult.{CallResult}

-- The kinds of what comes of a call: refused because of an error of the caller; ignored; joined or swallowed, and not
-- answered; refused by the transport; rejected; a write that is done; a reply; Update Complete.
abbrev pub kind_refused : ℕ
kind_refused = 0

abbrev pub kind_ignored : ℕ
kind_ignored = 1

abbrev pub kind_joined : ℕ
kind_joined = 2

abbrev pub kind_transport_refusal : ℕ
kind_transport_refusal = 3

abbrev pub kind_rejected : ℕ
kind_rejected = 4

abbrev pub kind_written : ℕ
kind_written = 5

abbrev pub kind_replied : ℕ
kind_replied = 6

abbrev pub kind_update_complete : ℕ
kind_update_complete = 7

-- The kind, the number of the caller's error and its position, the flags of Received OK, the code of Rejected, where
-- memory changed and in how many bytes, the reply's length, and the number of frames to send.
abbrev pub all_numbers : ℕ → ℕ → ℕ → ℕ → ℕ → ℕ → ℕ → ℕ → ℕ → CallResult
all_numbers kind error position flags code index n reply frames =
    record { kind = kind; code = code; error = error; flags = flags; changed_at = index; changed_len = n; reply_len = reply; frame_count = frames; position = position }

-- What stands where there is no position: a blank is not a zero, and no space has this position.
abbrev pub no_position : ℕ
no_position = 255

-- Refused because of an error of the caller. A number that a kind does not name is 0.
abbrev pub refusal_numbers : ℕ → ℕ → ℕ → CallResult
refusal_numbers error position frames = all_numbers kind_refused error position 0 0 0 0 0 frames

-- Any other kind has no error, and no position.
abbrev pub numbers : ℕ → ℕ → ℕ → ℕ → ℕ → ℕ → ℕ → CallResult
numbers kind flags code index n reply frames = all_numbers kind 0 no_position flags code index n reply frames

-- The numbers in their bytes, four for the index and for the length of a change, one for the other lengths: one that
-- has no room is given as the greatest that has. No call gives such a number (answer: SmallAnswer).
abbrev pub in_bytes : CallResult → CallResult
in_bytes r =
    all_numbers r.kind r.error r.position r.flags r.code
    (min r.changed_at 0xFFFFFFFF) (min r.changed_len 0xFFFFFFFF)
    (min r.reply_len 255) (min r.frame_count 255)

-- The 20 bytes of a result: the kind at 0 to 3, the code at 4 and 5, the error at 6, the flags at 7, where memory
-- changed at 8 to 11 and in how many bytes at 12 to 15, the reply's length at 16, the number of frames at 17, the
-- position at 18. What takes several bytes stands least significant byte first; the last byte is 0.
abbrev pub result_bytes : CallResult → List ℕ
result_bytes r =
    least_first r.kind
    ++ r.code % 256 ∷ r.code / 256 ∷ []
    ++ r.error ∷ []
    ++ r.flags ∷ []
    ++ least_first r.changed_at
    ++ least_first r.changed_len
    ++ r.reply_len ∷ []
    ++ r.frame_count ∷ []
    ++ r.position ∷ []
    ++ 0 ∷ []
