use Rattle.std.proofs.Common.{◌∙◌, ◌+◌, arith, length}
use Rattle.quic_base.proofs.Storing.{stays}
use Rattle.quic_header_encode.proofs.Sizes.{long_room, long_sized}
use Rattle.quic_header_encode.proofs.store.HeaderRef.store_long.Goals as goal

pub returns-clause-back : goal.returns-clause-back
returns-clause-back g c = λ exact.
    c.store_end.ensures.back
    ∙ stays c.store_its_token-at.result c.store_end.result _ _ c.store_its_token-at.ensures.back (omega arith)
    ∙ stays c.store_long_start-at.result c.store_end.result _ _ (c.store_long_start-at.ensures.back exact.dst exact.src) (omega arith)

pub store_its_token-at-requires-clause-room : goal.store_its_token-at-requires-clause-room
store_its_token-at-requires-clause-room g c = omega (arith, c.requires.room.whole, long_sized g.I.StoredId.id c.args.self.now c.requires.long)

pub store_end-requires-clause-room : goal.store_end-requires-clause-room
store_end-requires-clause-room g c = omega (arith, c.requires.room.whole, long_sized g.I.StoredId.id c.args.self.now c.requires.long)

pub returns-clause-end : goal.returns-clause-end
returns-clause-end g c = omega (arith, long_sized g.I.StoredId.id c.args.self.now c.requires.long)

pub store_long_start-at-requires-clause-dst_room : goal.store_long_start-at-requires-clause-dst_room
store_long_start-at-requires-clause-dst_room g c = omega (arith, c.requires.room.dst, long_room c.args.self.now.kind 1 6 c.requires.long)

pub store_long_start-at-requires-clause-src_room : goal.store_long_start-at-requires-clause-src_room
store_long_start-at-requires-clause-src_room g c =
    omega (
      arith,
      c.requires.room.src,
      long_room c.args.self.now.kind 0 (7 + length (g.I.StoredId.id c.args.self.now.dst_cid)
          + g.I.StoredId.room c.args.self.now.src_cid) c.requires.long,
    )
