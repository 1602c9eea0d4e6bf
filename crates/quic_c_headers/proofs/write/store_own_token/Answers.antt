use Rattle.std.proofs.Common.{IsTrue, ◌++◌, length, refl, sym, subst, arith}
use Rattle.quic_base.specs.Varint.{shortest_varint}
use Rattle.quic_header_encode.specs.Kinds.{row}
use Rattle.quic_header_encode.proofs.Sizes.{field_length, token_length}
use Rattle.quic_c_headers.proofs.write.store_own_token.Goals as goal

pub store_token-requires-clause-room : goal.store_token-requires-clause-room
store_token-requires-clause-room c =
    let token = c.args.token.now in
    let has : IsTrue (row c.args.kind).has_token = subst (λ k. IsTrue (row k).has_token) (sym c.in-Initial.is) refl in
    omega (arith, c.requires.room, token_length token, field_length (row c.args.kind).has_token (shortest_varint (length token) ++ token) has)

pub returns-in-Initial-clause-end : goal.returns-in-Initial-clause-end
returns-in-Initial-clause-end c =
    let token = c.args.token.now in
    let has : IsTrue (row c.args.kind).has_token = subst (λ k. IsTrue (row k).has_token) (sym c.in-Initial.is) refl in
    omega (arith, c.store_token.ensures.end, token_length token, field_length (row c.args.kind).has_token (shortest_varint (length token) ++ token) has)
