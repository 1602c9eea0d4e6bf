use Rattle.quic_c_write.proofs.AckGaps.{counts_below}
use Rattle.quic_c_write.proofs.ack_gaps.bits_of_counts.Goals as goal

pub returns-then-ack-eq2 : goal.returns-then-ack-eq2
returns-then-ack-eq2 c = counts_below c.args.ack.now c.if-ack-eq2.true
