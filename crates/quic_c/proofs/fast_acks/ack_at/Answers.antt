use Rattle.std.proofs.Common.{sym, ap, arith}
use Rattle.quic_frame_fields.specs.Acks.{AckParts}
use Rattle.quic_c_words.specs.Shown.{first_length}
use Rattle.quic_c.proofs.FastAcks.{ack_finds}
use Rattle.quic_c_words.proofs.FirstRange.{first_reads}
use Rattle.quic_c.proofs.fast_acks.ack_at.Goals as goal

pub returns-clause-finds : goal.returns-clause-finds
returns-clause-finds c =
    let h = c.in_ok-fields.ensures.parts in
    ack_finds c.args.has_counts c.args.payload.now c.args.begin _ c.in_ok-largest.largest c.in_ok-delay.delay _ _ _
    c.in_ok-ranges.ranges.now c.in_ok-ranges.after.now c.in_ok-ecn.rest.now c.in_ok-ecn.ecn c.of_blocks.result h
    (c.requires.begins _ _ h.parts) c.in_ok-largest.ensures.read c.in_ok-delay.ensures.read c.in_ok-ranges.ensures.read
    c.in_ok-ecn.ensures.read c.in_ok-ecn.ensures.fewer c.of_blocks.ensures

pub returns-clause-first : goal.returns-clause-first
returns-clause-first c =
    let f =
    first_reads c.of_blocks.result c.in_ok-ranges.ranges.now c.in_ok-ranges.first c.in_ok-ranges.gaps.now
    (ap (λ (p : AckParts). p.additional) (sym c.of_blocks.ensures)) c.are_bytes.ensures c.in_ok-ranges.ensures.first in
    omega (arith, f.first, ap first_length f.ranges)

pub returns-clause-below : goal.returns-clause-below
returns-clause-below c =
    let f =
    first_reads c.of_blocks.result c.in_ok-ranges.ranges.now c.in_ok-ranges.first c.in_ok-ranges.gaps.now
    (ap (λ (p : AckParts). p.additional) (sym c.of_blocks.ensures)) c.are_bytes.ensures c.in_ok-ranges.ensures.first in
    (f.least, f.below, f.ranges, f.encoded)
