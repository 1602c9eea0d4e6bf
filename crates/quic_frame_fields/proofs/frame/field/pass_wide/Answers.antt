use Rattle.std.proofs.Common.{arith}
use Rattle.quic_frame_fields.proofs.WideRanges.{wide_passes}
use Rattle.quic_frame_fields.proofs.frame.field.pass_wide.Goals as goal

pub loop-left-preserved : goal.loop-left-preserved
loop-left-preserved c = record {
  fewer = omega arith;
  same = wide_passes c.loop-left.left c.loop-left.low c.in-Some-wide_front.least c.in-Some-wide_front.taken
      c.loop-left.rest.now c.in-Some.front.now _
      c.in-Some.ensures.cases.same c.in-Some.ensures.cases.enough c.in-Some-wide_front.ensures.within
      c.in-Some-wide_front.ensures.read (omega arith) c.loop-left.invariant.same;
}
