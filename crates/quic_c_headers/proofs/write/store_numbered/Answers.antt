use Rattle.std.proofs.Common.{◌≡◌, ◌∙◌, length, take, ap, arith, rules}
use Rattle.quic_base.proofs.Storing.{stays}
use Rattle.quic_c_headers.proofs.Writing.{fields_length, fields_stored, numbered_described, typed}
use Rattle.quic_c_headers.proofs.write.store_numbered.Goals as goal

pub store_front-at-requires-clause-typed : goal.store_front-at-requires-clause-typed
store_front-at-requires-clause-typed c = typed c.args.kind c.requires.has

pub store_front-at-requires-clause-room : goal.store_front-at-requires-clause-room
store_front-at-requires-clause-room c =
    let same =
    numbered_described c.args.kind c.args.words.now c.args.dst.now c.args.src.now c.args.token.now c.requires.has c.requires.some c.requires.few in
    omega (arith, c.requires.room, ap length same, fields_length c.args.kind c.args.words.now c.args.dst.now c.args.src.now c.args.token.now)

pub store_own_token-at-requires-clause-room : goal.store_own_token-at-requires-clause-room
store_own_token-at-requires-clause-room c =
    let same =
    numbered_described c.args.kind c.args.words.now c.args.dst.now c.args.src.now c.args.token.now c.requires.has c.requires.some c.requires.few in
    omega (arith, c.requires.room, ap length same, fields_length c.args.kind c.args.words.now c.args.dst.now c.args.src.now c.args.token.now)

pub store_end-requires-clause-room : goal.store_end-requires-clause-room
store_end-requires-clause-room c =
    let same =
    numbered_described c.args.kind c.args.words.now c.args.dst.now c.args.src.now c.args.token.now c.requires.has c.requires.some c.requires.few in
    omega (arith, c.requires.room, ap length same, fields_length c.args.kind c.args.words.now c.args.dst.now c.args.src.now c.args.token.now)

pub returns-clause-end : goal.returns-clause-end
returns-clause-end c =
    let same =
    numbered_described c.args.kind c.args.words.now c.args.dst.now c.args.src.now c.args.token.now c.requires.has c.requires.some c.requires.few in
    omega (arith, ap length same, fields_length c.args.kind c.args.words.now c.args.dst.now c.args.src.now c.args.token.now)

pub returns-clause-front : goal.returns-clause-front
returns-clause-front c =
    let pieces : take c.store_end.result c.store_end.new.dest
    ≡ fields_stored c.args.kind c.args.words.now c.args.dst.now c.args.src.now c.args.token.now = search rules in
    pieces
    ∙ numbered_described c.args.kind c.args.words.now c.args.dst.now c.args.src.now c.args.token.now c.requires.has c.requires.some c.requires.few

pub returns-clause-back : goal.returns-clause-back
returns-clause-back c =
    c.store_end.ensures.back
    ∙ stays c.store_own_token-at.result c.store_end.result _ _ c.store_own_token-at.ensures.back (omega arith)
    ∙ stays c.store_front-at.result c.store_end.result _ _ c.store_front-at.ensures.back (omega arith)
