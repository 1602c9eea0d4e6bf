use Rattle.std.proofs.Common.{arith}
use Rattle.quic_c.proofs.Fronts.{head_given}
use Rattle.quic_c.proofs.acks.quic_wire_ack_ranges_init_.Goals as goal

pub returns-clause-head : goal.returns-clause-head
returns-clause-head c = λ _.
    let facts = c.in-Ok.ensures in
    head_given c.args.payload.now c.args.frame.now c.in-Ok.largest c.in-Ok.count c.in-Ok.blocks.now (omega arith)
    (omega arith) facts.begins facts.bound
