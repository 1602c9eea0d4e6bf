use Rattle.std.proofs.Common.{arith, ◌∙◌, sym, subst, refl}
use Rattle.std.proofs.lemmas.Result.{err_from_is_err_and}
use Rattle.quic_base.specs.Number.{AreBytes}
use Rattle.quic_frame_fields.specs.Numbers.{AreNumeric, AreEncoded}
use Rattle.quic_base.proofs.Encoders.{wrote_first, writes_third, writes_begun, writes_within}
use Rattle.quic_frame_fields.proofs.Held.{held_parts, held_many, held_whole}
use Rattle.std.proofs.lemmas.Grind.{common_steps}
use Rattle.quic_frame_fields.proofs.frame.ack_encode.encode_ack.Goals as goal

pub header_of-requires : goal.header_of-requires
header_of-requires g c =
    let a = c.args.ack.now in
    let h = held_parts a (subst AreBytes c.additional.ensures c.count_and_len-numbers.ensures.bytes) c.requires in
    held_many a h c.additional.result.now c.count_and_len-numbers.result.0 c.additional.ensures c.count_and_len-numbers.ensures.count

pub numbers-requires-clause-numeric : goal.numbers-requires-clause-numeric
numbers-requires-clause-numeric g c =
    let h = held_parts c.args.ack.now (subst AreBytes c.additional.ensures c.count_and_len-numbers.ensures.bytes)
    c.requires in subst AreNumeric (sym c.header_of.ensures) h.numeric

pub returns-in_err-numbers : goal.returns-in_err-numbers
returns-in_err-numbers g c last =
    let a = c.args.ack.now in
    let h = held_parts a (subst AreBytes c.additional.ensures c.count_and_len-numbers.ensures.bytes) c.requires in
    let p = err_from_is_err_and c.from_residual.result c.from_residual.ensures.1 in
    rw (held_whole a h last c.header_of.result a.ecn c.header_of.ensures refl)
    (writes_begun c.numbers.result c.from_residual.result p.0 _ _ _ _ _ _ _ c.numbers.ensures c.in_err-numbers.was p.1)

pub shortened-requires : goal.shortened-requires
shortened-requires g c ns s =
    c.count_and_len-numbers.ensures.len ns (subst (AreEncoded ns) (c.additional-2.ensures ∙ sym c.additional.ensures) s)

pub returns-in_err-shortened : goal.returns-in_err-shortened
returns-in_err-shortened g c last =
    let a = c.args.ack.now in
    let h = held_parts a (subst AreBytes c.additional.ensures c.count_and_len-numbers.ensures.bytes) c.requires in
    let p = err_from_is_err_and c.from_residual-in_err-shortened.result c.from_residual-in_err-shortened.ensures.1 in
    let blocks = c.shortened.ensures h.numbers (subst (AreEncoded h.numbers) (sym c.additional-2.ensures) h.encoded) in
    writes_within c.shortened.result c.from_residual-in_err-shortened.result p.0 _ _ _ _ _ _ _ _ _ _ _
    (held_whole a h last c.header_of.result a.ecn c.header_of.ensures refl)
    (wrote_first c.numbers.result _ _ _ _ _ c.numbers.ensures c.in_ok-numbers.was) blocks c.in_err-shortened.was p.1

pub returns : goal.returns
returns g c last =
    let a = c.args.ack.now in
    let h = held_parts a (subst AreBytes c.additional.ensures c.count_and_len-numbers.ensures.bytes) c.requires in
    let blocks = c.shortened.ensures h.numbers (subst (AreEncoded h.numbers) (sym c.additional-2.ensures) h.encoded) in
    rw (held_whole a h last c.header_of.result c.ecn.result c.header_of.ensures c.ecn.ensures)
    (writes_third c.shortened.result c.encode_counts.result _ _ _ _ _ _ _ _ _ _ _
    (wrote_first c.numbers.result _ _ _ _ _ c.numbers.ensures c.in_ok-numbers.was) blocks c.in_ok-shortened.was
    c.encode_counts.ensures)

pub encode_counts-requires : goal.encode_counts-requires
encode_counts-requires g c = grind (arith, common_steps)
