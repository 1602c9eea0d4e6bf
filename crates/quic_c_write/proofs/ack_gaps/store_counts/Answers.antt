use Rattle.quic_c_write.proofs.StoredAcks.{stored_counts}
use Rattle.quic_c_write.proofs.ack_gaps.store_counts.Goals as goal

pub returns-clause-stores : goal.returns-clause-stores
returns-clause-stores c =
    stored_counts c.args.ack.now c.args.dest.now c.store-at.new.dest c.store_two.new.dest c.args.at c.store-at.result
    c.store_two.result c.requires.some
    c.store-at.ensures.stores c.store_two.ensures.stores
