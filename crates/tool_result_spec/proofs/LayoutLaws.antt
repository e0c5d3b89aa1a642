-- What the bytes of a reply stand for is the reply that was stored.
-- Assumes nothing.
use mathlib.Core.Path.{◌≡◌}
use Rattle.buffer.proofs.LeastLaws.{bool_back, two_back, four_back, eight-back}
use Rattle.tool_result_spec.specs.Layout.{range_bytes, reply_fields_bytes, range_in, reply_in}
use Rattle.tool_result_spec.specs.declared.ByteRange.{ByteRange}
use Rattle.tool_result_spec.specs.declared.ReplyFields.{ReplyFields}

range_back : (b : ByteRange) → range_in (range_bytes b) ≡ b
range_back b = rw (bool_back b.given, eight-back b.start, eight-back b.length)

pub reply-back : (r : ReplyFields) → reply_in (reply_fields_bytes r) ≡ r
reply-back r =
    let o = r.options in
    let i = r.information in
    rw (
      four_back r.kind,
      four_back r.address,
      two_back r.code,
      two_back o.commands,
      bool_back o.has_lowest_space,
      four_back i.highest_address,
      four_back i.lowest_address,
      bool_back i.present,
      bool_back i.has_lowest_address,
      range_back r.bytes,
    )
