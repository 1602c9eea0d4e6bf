use Rattle.std.proofs.Common.{refl, arith}
use Rattle.quic_c.proofs.Places.{to_end}
use Rattle.quic_c.proofs.RangeSteps.{none_there, range_given}
use Rattle.quic_c.proofs.acks.quic_wire_ack_ranges_next_.Goals as goal

pub returns-clause-range : goal.returns-clause-range
returns-clause-range c = λ _.
    let it = c.args.ranges.now in
    let facts = c.in-Some.ensures in
    let end = to_end c.args.payload.now it.offset in
    range_given c.args.payload.now it.offset it.left it.largest c.in-Some.least c.in-Some.next c.in-Some.rest.now
    (omega arith) (omega arith) (omega arith) (rw end at facts.takes) (rw end at facts.shorter) (rw end at facts.left)

pub returns-in_default-clause-invalid : goal.returns-in_default-clause-invalid
returns-in_default-clause-invalid c = λ _.
    let cut = c.in_default.ensures.cut refl in
    none_there c.args.ranges.now c.args.payload.now cut.0 (omega arith)
    (rw (to_end c.args.payload.now c.args.ranges.now.offset) at cut.1)
