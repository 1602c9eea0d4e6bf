use Rattle.std.proofs.Common.{length}
use Rattle.quic_c_write.specs.AckGaps.{delay_in, greatest_of_words}
use Rattle.quic_c_write.proofs.StoredAcks.{stored_front}
use Rattle.quic_c_write.proofs.ack_gaps.store_front.Goals as goal

pub returns-clause-stores : goal.returns-clause-stores
returns-clause-stores c =
    let words = c.args.ack.now in
    stored_front (greatest_of_words words) (delay_in words) (length c.args.gaps.now) words.data_len c.args.dest.now
    c.store-at.new.dest c.store-at-2.new.dest c.store_two.new.dest c.store-at.result
    c.store-at-2.result c.store_two.result c.store-at.ensures.stores c.store-at-2.ensures.stores c.store_two.ensures.stores
