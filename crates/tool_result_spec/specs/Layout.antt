-- The structs of the tool's edge as the bytes that a caller in C lends for them: least significant byte first, and zero
-- where no field lies.
use Rattle.std.specs.Prelude.{ℕ, List, [], ◌∷◌, ◌++◌, drop, get_or}
use Rattle.buffer.specs.LittleEndian.{least_first, two_least_first, eight_least_first, bool_byte, zeros, number_at, bool_at}
use Rattle.tool_result_spec.specs.declared.Composed.{Composed}
use Rattle.tool_result_spec.specs.declared.Acknowledged.{Acknowledged}
use Rattle.tool_result_spec.specs.declared.ByteRange.{ByteRange}
use Rattle.tool_result_spec.specs.declared.RejectionFields.{RejectionFields}
use Rattle.tool_result_spec.specs.declared.OptionsFields.{OptionsFields}
use Rattle.tool_result_spec.specs.declared.InformationFields.{InformationFields}
use Rattle.tool_result_spec.specs.declared.ReplyFields.{ReplyFields}

-- 16 bytes: refusal at 0, length at 8.
abbrev pub composed_bytes : Composed → List ℕ
composed_bytes c = least_first c.refusal ++ zeros 4 ++ eight_least_first c.length

-- 8 bytes: refusal at 0, pending at 4, timeout at 5.
abbrev pub acknowledged_bytes : Acknowledged → List ℕ
acknowledged_bytes a = least_first a.refusal ++ (bool_byte a.pending ∷ a.timeout ∷ []) ++ zeros 2

-- 24 bytes: given at 0, start at 8, length at 16.
abbrev pub range_bytes : ByteRange → List ℕ
range_bytes b = (bool_byte b.given ∷ []) ++ zeros 7 ++ eight_least_first b.start ++ eight_least_first b.length

-- 32 bytes: refusal at 0, code at 4, further at 8.
abbrev pub rejection_front : RejectionFields → List ℕ
rejection_front r = least_first r.refusal ++ two_least_first r.code ++ zeros 2

abbrev pub rejection_bytes : RejectionFields → List ℕ
rejection_bytes r = rejection_front r ++ range_bytes r.further

-- 6 bytes: commands at 0, write_lengths at 2, highest_space at 3, has_lowest_space at 4, lowest_space at 5.
abbrev pub options_bytes : OptionsFields → List ℕ
options_bytes o =
    two_least_first o.commands
    ++ (o.write_lengths ∷ o.highest_space ∷ bool_byte o.has_lowest_space ∷ o.lowest_space ∷ [])

-- 12 bytes: highest_address at 0, lowest_address at 4, flags at 8, present at 9, has_lowest_address at 10.
abbrev pub information_bytes : InformationFields → List ℕ
information_bytes i =
    least_first i.highest_address ++ least_first i.lowest_address
    ++ (i.flags ∷ bool_byte i.present ∷ bool_byte i.has_lowest_address ∷ []) ++ zeros 1

-- 56 bytes: kind at 0, address at 4, code at 8, space at 10, form at 11, options at 12, information at 20, bytes at 32.
abbrev pub reply_front : ReplyFields → List ℕ
reply_front r =
    least_first r.kind ++ least_first r.address ++ two_least_first r.code ++ (r.space ∷ r.form ∷ [])
    ++ options_bytes r.options ++ zeros 2 ++ information_bytes r.information

abbrev pub reply_fields_bytes : ReplyFields → List ℕ
reply_fields_bytes r = reply_front r ++ range_bytes r.bytes

-- ---- a reply read back, each field from its offset

abbrev pub range_in : List ℕ → ByteRange
range_in b = record { given = bool_at 0 b; start = number_at 8 8 b; length = number_at 16 8 b }

abbrev pub options_in : List ℕ → OptionsFields
options_in b =
    record {
      commands = number_at 0 2 b;
      write_lengths = get_or b 2 0;
      highest_space = get_or b 3 0;
      has_lowest_space = bool_at 4 b;
      lowest_space = get_or b 5 0;
    }

abbrev pub information_in : List ℕ → InformationFields
information_in b =
    record {
      highest_address = number_at 0 4 b;
      lowest_address = number_at 4 4 b;
      flags = get_or b 8 0;
      present = bool_at 9 b;
      has_lowest_address = bool_at 10 b;
    }

abbrev pub reply_in : List ℕ → ReplyFields
reply_in b =
    record {
      kind = number_at 0 4 b;
      address = number_at 4 4 b;
      code = number_at 8 2 b;
      space = get_or b 10 0;
      form = get_or b 11 0;
      options = options_in (drop 12 b);
      information = information_in (drop 20 b);
      bytes = range_in (drop 32 b);
    }
