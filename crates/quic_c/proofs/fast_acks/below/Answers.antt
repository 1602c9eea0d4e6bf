use Rattle.std.proofs.Common.{arith}
use Rattle.quic_frame_fields.proofs.Gaps.{goes_on, is_done}
use Rattle.quic_c.proofs.fast_acks.below.Goals as goal

pub loop-left-preserved : goal.loop-left-preserved
loop-left-preserved c = (
  goes_on c.loop-left.left c.loop-left.low c.in_ok-least.field-0-1 c.in_ok-least.least c.loop-left.rest.now
      c.in_ok-least.after.now _ (omega arith) c.in_ok-least.ensures.read c.loop-left.invariant.0,
  omega (arith, c.in_ok-least.ensures.fewer, c.loop-left.invariant.1),
)

pub returns-clause-read : goal.returns-clause-read
returns-clause-read c =
    is_done c.loop-left.left c.loop-left.low c.loop-left.rest.now _ (omega arith) c.loop-left.invariant.0
