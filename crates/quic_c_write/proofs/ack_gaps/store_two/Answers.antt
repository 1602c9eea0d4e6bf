use Rattle.std.proofs.Common.{List, ℕ, subst, sym, arith}
use Rattle.quic_frame_fields.specs.Putting.{Stores}
use Rattle.quic_c_write.proofs.StoredAcks.{both_small, few_two, stored_two, short_two}
use Rattle.quic_c_write.proofs.ack_gaps.store_two.Goals as goal

pub overflow_cast-one : goal.overflow_cast-one
overflow_cast-one c = omega (arith, (both_small c.args.one c.args.other c.if-one-other.true).0)

pub overflow_cast-other : goal.overflow_cast-other
overflow_cast-other c = omega (arith, (both_small c.args.one c.args.other c.if-one-other.true).1)

pub store_bytes-requires : goal.store_bytes-requires
store_bytes-requires c = omega (arith, c.requires.room, few_two c.args.one c.args.other)

pub returns-then-one-other-clause-stores : goal.returns-then-one-other-clause-stores
returns-then-one-other-clause-stores c =
    subst (λ (l : List ℕ). Stores l c.args.at c.args.dest.now c.store_bytes.result c.store_bytes.new.dest)
    (sym (short_two c.args.one c.args.other c.if-one-other.true)) c.store_bytes.ensures.stores

pub returns-clause-stores : goal.returns-clause-stores
returns-clause-stores c =
    stored_two c.args.one c.args.other c.args.dest.now c.store-at.new.dest c.store.new.dest c.args.at c.store-at.result
    c.store.result c.store-at.ensures.stores c.store.ensures.stores
