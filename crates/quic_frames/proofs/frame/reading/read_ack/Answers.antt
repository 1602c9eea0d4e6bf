use Rattle.std.proofs.Common.{◌≤◌, length, arith}
use Rattle.std.proofs.lemmas.Grind.{common_steps}
use Rattle.quic_frame_fields.specs.Reading.{row_at, varint_at}
use Rattle.quic_frame_fields.proofs.Varints.{varint_found}
use Rattle.quic_frames.proofs.Finding.{varint_shorter, reads}
use Rattle.quic_frames.proofs.frame.reading.read_ack.Goals as goal

pub returns : goal.returns
unfolding row_at varint_at
returns c =
    let one =
    varint_shorter c.in_ok-blocks.rest.now c.in_ok-ect0.ect0 c.in_ok-ect0.rest.now (varint_found _ _ c.in_ok-ect0.ensures.found) in
    let two = varint_shorter c.in_ok-ect0.rest.now c.in_ok-ect1.ect1 c.in_ok-ect1.rest.now (varint_found _ _ c.in_ok-ect1.ensures.found) in
    let three = varint_shorter c.in_ok-ect1.rest.now c.in_ok-ce.ce c.in_ok-ce.rest.now (varint_found _ _ c.in_ok-ce.ensures.found) in
    let fewer : length c.in_ok-ce.rest.now ≤ length c.in_ok-blocks.rest.now = omega (arith, one, two, three) in (
      grind (arith, common_steps),
      tt,
      reads _ c.in_ok-largest.largest c.in_ok-delay.delay c.args.bytes.now c.in_ok-largest.rest.now
          c.in_ok-delay.rest.now c.in_ok-blocks.blocks.now c.in_ok-blocks.rest.now c.in_ok-ce.rest.now _
          c.of_blocks-ack-2.ensures
          (varint_found _ _ c.in_ok-largest.ensures.found) (varint_found _ _ c.in_ok-delay.ensures.found) c.in_ok-blocks.ensures.gives fewer,
    )

pub returns-then-not-has_counts : goal.returns-then-not-has_counts
unfolding row_at varint_at
returns-then-not-has_counts c = (
  grind (arith, common_steps),
  tt,
  reads _ c.in_ok-largest.largest c.in_ok-delay.delay c.args.bytes.now c.in_ok-largest.rest.now c.in_ok-delay.rest.now
      c.in_ok-blocks.blocks.now c.in_ok-blocks.rest.now c.in_ok-blocks.rest.now _ c.of_blocks-ack.ensures
      (varint_found _ _ c.in_ok-largest.ensures.found) (varint_found _ _ c.in_ok-delay.ensures.found)
      c.in_ok-blocks.ensures.gives (omega arith),
)
