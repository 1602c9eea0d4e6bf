use Rattle.quic_c_write.proofs.StoredAcks.{counted_more}
use Rattle.quic_c_write.proofs.ack_gaps.gaps_len.Goals as goal

pub loop-gap-preserved : goal.loop-gap-preserved
loop-gap-preserved c =
    rw (c.var_size.ensures.value, c.var_size-in-loop-gap.ensures.value)
    (counted_more c.args.low c.args.gaps.now c.loop-gap.gap-index c.loop-gap.len c.loop-gap-test.true
    c.loop-gap.invariant)
