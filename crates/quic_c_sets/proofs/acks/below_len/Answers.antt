use Rattle.std.proofs.Common.{◌-◌, arith}
use Rattle.quic_c_sets.proofs.Writing.{counted_more, next_below}
use Rattle.quic_c_sets.proofs.acks.below_len.Goals as goal

pub overflow_sub-gap : goal.overflow_sub-gap
overflow_sub-gap c =
    let n = next_below c.args.runs.now c.loop-left.left (c.loop-left.left - 1) c.loop-left.above (omega arith)
    c.loop-left.invariant.below in omega (arith, n.apart)

pub overflow_sub-gap-in-loop-left : goal.overflow_sub-gap-in-loop-left
overflow_sub-gap-in-loop-left c =
    let n = next_below c.args.runs.now c.loop-left.left (c.loop-left.left - 1) c.loop-left.above (omega arith)
    c.loop-left.invariant.below in omega (arith, n.apart)

pub overflow_sub-block : goal.overflow_sub-block
overflow_sub-block c =
    let n = next_below c.args.runs.now c.loop-left.left (c.loop-left.left - 1) c.loop-left.above (omega arith)
    c.loop-left.invariant.below in omega (arith, n.some)

pub overflow_sub-block-in-loop-left : goal.overflow_sub-block-in-loop-left
overflow_sub-block-in-loop-left c =
    let n = next_below c.args.runs.now c.loop-left.left (c.loop-left.left - 1) c.loop-left.above (omega arith)
    c.loop-left.invariant.below in omega (arith, n.some)

pub loop-left-preserved : goal.loop-left-preserved
loop-left-preserved c =
    rw (c.var_size.ensures.value, c.var_size-in-loop-left.ensures.value)
    (counted_more c.args.runs.now c.args.above c.loop-left.above c.loop-left.len c.loop-left.left
    (c.loop-left.left - 1) (omega arith) c.loop-left.invariant)
