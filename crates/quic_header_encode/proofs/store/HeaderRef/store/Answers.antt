use Rattle.std.proofs.Common.{ℕ, ◌+◌, ◌∙◌, arith}
use Rattle.quic_base.proofs.Storing.{stays}
use Rattle.quic_header_encode.proofs.Sizes.{short_sized}
use Rattle.quic_header_encode.proofs.store.HeaderRef.store.Goals as goal

pub returns-in-Short-clause-back : goal.returns-in-Short-clause-back
returns-in-Short-clause-back g c = λ exact.
    let behind : ℕ = 1 + g.I.StoredId.room c.args.self.now.dst_cid in
    c.store_number.ensures.back
    ∙ stays behind c.store_number.result _ _ c.store_short-at.ensures.back (omega (arith, exact.dst))

pub store_number-requires-clause-room : goal.store_number-requires-clause-room
store_number-requires-clause-room g c = omega (arith, c.requires.room.whole, short_sized g.I.StoredId.id c.args.self.now c.in-Short.is)

pub returns-in-Short-clause-end : goal.returns-in-Short-clause-end
returns-in-Short-clause-end g c = omega (arith, short_sized g.I.StoredId.id c.args.self.now c.in-Short.is)
