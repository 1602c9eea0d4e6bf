use Rattle.std.proofs.Common.{length, ap, ◌∙◌, arith}
use Rattle.quic_frame_fields.specs.Reading.{range_at}
use Rattle.quic_frame_fields.proofs.Gaps.{goes_on, short_range}
use Rattle.quic_c.proofs.fast_acks.pass_short.Goals as goal

pub loop-left-preserved : goal.loop-left-preserved
loop-left-preserved c =
    let front = c.in-Some.ensures in
    let here = c.loop-left in (
      goes_on here.left here.low _ _ here.rest.now c.in-Some.after.now _ (omega arith)
          (ap (range_at here.low) front.0
          ∙ short_range here.low c.in-Some.between c.in-Some.len c.in-Some.after.now front.1 front.2 (omega arith))
          here.invariant.0,
      omega (arith, ap length front.0, here.invariant.1),
    )
