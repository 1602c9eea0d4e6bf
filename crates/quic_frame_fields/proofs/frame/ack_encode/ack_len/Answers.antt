use Rattle.std.proofs.Common.{◌∙◌, sym, subst}
use Rattle.quic_base.specs.Number.{AreBytes}
use Rattle.quic_frame_fields.specs.Numbers.{AreNumeric, AreEncoded}
use Rattle.quic_frame_fields.proofs.Held.{held_parts, held_many, held_length}
use Rattle.quic_frame_fields.proofs.frame.ack_encode.ack_len.Goals as goal

pub header_of-requires : goal.header_of-requires
header_of-requires c =
    let a = c.args.ack.now in
    let h = held_parts a (subst AreBytes c.additional.ensures c.count_and_len-numbers.ensures.bytes) c.requires in
    held_many a h c.additional.result.now c.count_and_len-numbers.result.0 c.additional.ensures c.count_and_len-numbers.ensures.count

pub numbers_len-header_len-requires : goal.numbers_len-header_len-requires
numbers_len-header_len-requires c =
    let h = held_parts c.args.ack.now (subst AreBytes c.additional.ensures c.count_and_len-numbers.ensures.bytes)
    c.requires in subst AreNumeric (sym c.header_of.ensures) h.numeric

pub returns : goal.returns
returns c last =
    let a = c.args.ack.now in
    let h = held_parts a (subst AreBytes c.additional.ensures c.count_and_len-numbers.ensures.bytes) c.requires in
    let blocks =
    c.count_and_len-numbers.ensures.len h.numbers (subst (AreEncoded h.numbers) (sym c.additional.ensures) h.encoded) in
    held_length a h last c.header_of.result c.ecn.result _ _ _ c.header_of.ensures c.ecn.ensures
    c.numbers_len-header_len.ensures.value (c.from.ensures ∙ blocks) c.counts_len.ensures.value
