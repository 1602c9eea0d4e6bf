use Rattle.std.proofs.Common.{◌-◌, ap, length, arith}
use Rattle.quic_c_sets.proofs.Writing.{all_below, stored_more, next_below, room_below}
use Rattle.quic_c_sets.proofs.acks.store_below.Goals as goal

pub overflow_sub-gap : goal.overflow_sub-gap
overflow_sub-gap c =
    let n = next_below c.args.runs.now c.loop-left.left (c.loop-left.left - 1) c.loop-left.above (omega arith)
    c.loop-left.invariant.below in omega (arith, n.apart)

pub overflow_sub-gap-in-loop-left : goal.overflow_sub-gap-in-loop-left
overflow_sub-gap-in-loop-left c =
    let n = next_below c.args.runs.now c.loop-left.left (c.loop-left.left - 1) c.loop-left.above (omega arith)
    c.loop-left.invariant.below in omega (arith, n.apart)

pub overflow_sub-block : goal.overflow_sub-block
overflow_sub-block c =
    let n = next_below c.args.runs.now c.loop-left.left (c.loop-left.left - 1) c.loop-left.above (omega arith)
    c.loop-left.invariant.below in omega (arith, n.some)

pub overflow_sub-block-in-loop-left : goal.overflow_sub-block-in-loop-left
overflow_sub-block-in-loop-left c =
    let n = next_below c.args.runs.now c.loop-left.left (c.loop-left.left - 1) c.loop-left.above (omega arith)
    c.loop-left.invariant.below in omega (arith, n.some)

pub numbers_at-at-requires-clause-numeric : goal.numbers_at-at-requires-clause-numeric
numbers_at-at-requires-clause-numeric c =
    (next_below c.args.runs.now c.loop-left.left (c.loop-left.left - 1) c.loop-left.above (omega arith) c.loop-left.invariant.below).numeric

pub numbers_at-at-requires-clause-room : goal.numbers_at-at-requires-clause-room
numbers_at-at-requires-clause-room c =
    let room = room_below c.args.runs.now c.args.above c.loop-left.above c.args.at c.loop-left.left
    (c.loop-left.left - 1) c.loop-left.at c.args.dest.now
    c.loop-left.dest (omega arith) c.loop-left.invariant in
    let all = ap length (all_below c.args.runs.now c.args.above) in
    omega (arith, room, all, c.requires.room)

pub loop-left-preserved : goal.loop-left-preserved
loop-left-preserved c =
    stored_more c.args.runs.now c.args.above c.loop-left.above c.args.at c.loop-left.left (c.loop-left.left - 1)
    c.loop-left.at c.numbers_at-at.result
    c.args.dest.now c.loop-left.dest c.numbers_at-at.new.dest (omega arith) c.loop-left.invariant
    c.numbers_at-at.ensures.stores
