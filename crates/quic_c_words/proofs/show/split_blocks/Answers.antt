use Rattle.std.proofs.Common.{ap, arith}
use Rattle.quic_c_words.specs.Shown.{first_length}
use Rattle.quic_frame_fields.proofs.Varints.{varint_found, varint_none}
use Rattle.quic_c_words.proofs.FirstRange.{first_reads, first_is_there}
use Rattle.quic_c_words.proofs.show.split_blocks.Goals as goal

pub unreachable-requires : goal.unreachable-requires
unreachable-requires c =
    first_is_there c.args.ack.now c.additional-blocks.result.now _ c.additional-blocks.ensures c.are_bytes.ensures
    (varint_none _ c.in_default.ensures.found)

pub returns-clause-first : goal.returns-clause-first
returns-clause-first c =
    let f =
    first_reads c.args.ack.now c.additional-blocks.result.now c.in-Ok.first c.in-Ok.below.now
    c.additional-blocks.ensures c.are_bytes.ensures (varint_found _ _ c.in-Ok.ensures.found) in
    omega (arith, f.first, ap first_length f.ranges)

pub returns-clause-below : goal.returns-clause-below
returns-clause-below c =
    let f =
    first_reads c.args.ack.now c.additional-blocks.result.now c.in-Ok.first c.in-Ok.below.now
    c.additional-blocks.ensures c.are_bytes.ensures (varint_found _ _ c.in-Ok.ensures.found) in
    (f.least, f.below, f.ranges, f.encoded)
