use Rattle.quic_frame_fields.proofs.FirstRanges.{short_step}
use Rattle.quic_frame_fields.proofs.frame.field.checked_range.Goals as goal

pub returns-then-all-greatest-clause-gives : goal.returns-then-all-greatest-clause-gives
returns-then-all-greatest-clause-gives c =
    let numbers = c.in-Some.ensures in
    rw numbers.0 (short_step c.args.greatest c.in-Some.length c.in-Some.between c.in-Some.rest.now numbers.1 numbers.2
    c.if-all-greatest.true)
