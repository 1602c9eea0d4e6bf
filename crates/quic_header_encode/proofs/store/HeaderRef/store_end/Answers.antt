use Rattle.std.proofs.Common.{IsTrue, ◌∙◌, replicate, ◌++◌, arith, rules}
use Rattle.quic_crypto.specs.PacketNumbers.{number_bytes}
use Rattle.quic_header_encode.specs.Kinds.{row}
use Rattle.quic_base.proofs.Storing.{stays}
use Rattle.quic_header_encode.proofs.Sizes.{field_length, zeros_length}
use Rattle.quic_header_encode.proofs.store.HeaderRef.store_end.Goals as goal

pub store_number-requires-clause-room : goal.store_number-requires-clause-room
store_number-requires-clause-room g c =
    let f = c.args.self.now in
    let has : IsTrue (row f.kind).has_len = search (rules, c.has_len.ensures, c.if-not-has_len) in
    omega (arith, c.requires.room, zeros_length f.length_len f.number.now, field_length (row f.kind).has_len (replicate f.length_len 0 ++ number_bytes f.number.now) has)

pub returns-clause-end : goal.returns-clause-end
returns-clause-end g c =
    let f = c.args.self.now in
    let has : IsTrue (row f.kind).has_len = search (rules, c.has_len.ensures, c.if-not-has_len) in
    omega (arith, zeros_length f.length_len f.number.now, field_length (row f.kind).has_len (replicate f.length_len 0 ++ number_bytes f.number.now) has)

pub returns-clause-back : goal.returns-clause-back
returns-clause-back g c =
    c.store_number.ensures.back
    ∙ stays c.store_no_length-at.result c.store_number.result _ _ c.store_no_length-at.ensures.back (omega arith)
