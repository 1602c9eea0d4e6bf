use Rattle.std.proofs.Common.{arith}
use Rattle.quic_frame_fields.proofs.ShortRanges.{four_read, some_read, some_few}
use Rattle.quic_frame_fields.proofs.frame.field.short_ranges.Goals as goal

pub returns-then-long-eq0-clause-read : goal.returns-then-long-eq0-clause-read
returns-then-long-eq0-clause-read c =
    four_read c.args.front.now c.from_le_bytes-word.result c.sum_of.result c.told-front c.fits-front
    c.from_le_bytes-word.type_inv c.from_le_bytes-word.ensures c.if-long-eq0.true c.sum_of.ensures.sum

pub returns-clause-few : goal.returns-clause-few
returns-clause-few c =
    let few = some_few c.from_le_bytes-word.result c.from-ranges.result c.from_le_bytes-word.type_inv
    c.if-long-eq0.false c.from-ranges.ensures in omega (arith, few)

pub returns-clause-read : goal.returns-clause-read
returns-clause-read c =
    some_read c.args.front.now c.from_le_bytes-word.result c.sum_of-2.result c.from-ranges.result c.told-front
    c.fits-front c.from_le_bytes-word.type_inv c.from_le_bytes-word.ensures c.if-long-eq0.false
    c.from-ranges.ensures c.sum_of-2.ensures.sum
