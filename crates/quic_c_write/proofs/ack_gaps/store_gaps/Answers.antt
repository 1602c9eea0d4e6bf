use Rattle.quic_c_write.proofs.StoredAcks.{stored_more, numeric_at, room_at}
use Rattle.quic_c_write.proofs.ack_gaps.store_gaps.Goals as goal

pub store_two-at-requires-clause-one : goal.store_two-at-requires-clause-one
store_two-at-requires-clause-one c =
    (numeric_at c.args.gaps.now c.loop-gap.gap-index c.loop-gap-test.true c.requires.numeric).0

pub store_two-at-requires-clause-other : goal.store_two-at-requires-clause-other
store_two-at-requires-clause-other c =
    (numeric_at c.args.gaps.now c.loop-gap.gap-index c.loop-gap-test.true c.requires.numeric).1

pub store_two-at-requires-clause-room : goal.store_two-at-requires-clause-room
store_two-at-requires-clause-room c =
    room_at c.args.gaps.now c.args.at c.loop-gap.gap-index c.loop-gap.at c.args.dest.now c.loop-gap.dest
    c.loop-gap-test.true c.requires.room c.loop-gap.invariant

pub loop-gap-preserved : goal.loop-gap-preserved
loop-gap-preserved c =
    stored_more c.args.gaps.now c.args.at c.loop-gap.gap-index c.loop-gap.at c.store_two-at.result c.args.dest.now
    c.loop-gap.dest c.store_two-at.new.dest c.loop-gap-test.true c.loop-gap.invariant
    c.store_two-at.ensures.stores c.store_two-at.ensures.len
