use Rattle.std.proofs.Common.{◌≡◌, ◌≤◌}
use Rattle.quic_frame_fields.specs.Reading.{below_at}
use Rattle.quic_frame_fields.proofs.frame.field.pass_wide.Given as goal

abbrev pub invariant-loop-left : goal.invariant-loop-left
invariant-loop-left l = record {
  fewer : l.left ≤ l.count;
  same : below_at l.left l.low l.rest ≡ below_at l.count l.fn.low l.bytes;
}

abbrev pub decreases-loop-left : goal.decreases-loop-left
decreases-loop-left l = l.left
