use Rattle.std.proofs.Common.{◌≡◌}
use Rattle.quic_frame_fields.specs.Reading.{below_at}
use Rattle.quic_frame_fields.proofs.frame.field.each_below.Given as goal

abbrev pub invariant-loop-behind : goal.invariant-loop-behind
invariant-loop-behind l = below_at l.left l.low l.rest ≡ below_at l.count l.fn.low l.bytes

abbrev pub decreases-loop-behind : goal.decreases-loop-behind
decreases-loop-behind l = l.left
