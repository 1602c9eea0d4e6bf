use Rattle.quic_frame_fields.proofs.Gaps.{short_range}
use Rattle.quic_frame_fields.proofs.frame.field.range.Goals as goal

pub returns-then-all-low : goal.returns-then-all-low
returns-then-all-low c =
    let numbers = c.in-Some.ensures in
    rw numbers.0 (short_range c.args.low c.in-Some.between c.in-Some.length c.in-Some.rest.now numbers.1 numbers.2 c.if-all-low.true)
