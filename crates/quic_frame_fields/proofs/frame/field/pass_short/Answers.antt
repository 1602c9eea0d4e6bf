use Rattle.std.proofs.Common.{arith}
use Rattle.quic_frame_fields.proofs.ShortRanges.{shorts_pass}
use Rattle.quic_frame_fields.proofs.frame.field.pass_short.Goals as goal

pub returns-then-ranges-lt4-clause-same : goal.returns-then-ranges-lt4-clause-same
returns-then-ranges-lt4-clause-same c =
    shorts_pass c.loop-left.left c.loop-left.low c.short_ranges-ranges.result.0 c.short_ranges-ranges.result.1
    c.loop-left.rest.now c.in-Some.front.now _
    c.in-Some.ensures.cases.same c.in-Some.ensures.cases.enough c.short_ranges-ranges.ensures.few
    c.short_ranges-ranges.ensures.read (omega arith) c.if-all-low.false c.loop-left.invariant.same

pub loop-left-preserved : goal.loop-left-preserved
loop-left-preserved c = record {
  fewer = omega arith;
  same = shorts_pass c.loop-left.left c.loop-left.low c.short_ranges-ranges.result.0 c.short_ranges-ranges.result.1
      c.loop-left.rest.now c.in-Some.front.now _
      c.in-Some.ensures.cases.same c.in-Some.ensures.cases.enough c.short_ranges-ranges.ensures.few
      c.short_ranges-ranges.ensures.read (omega arith) c.if-all-low.false c.loop-left.invariant.same;
}
