use Rattle.std.proofs.Common.{◌≡◌, ◌≤◌, length}
use Rattle.quic_frame_fields.specs.Reading.{below_at}
use Rattle.quic_c.proofs.fast_acks.pass_short.Given as goal

-- What is left to read is read as all is.
abbrev pub invariant-loop-left : goal.invariant-loop-left
invariant-loop-left l =
    (below_at l.left l.low l.rest ≡ below_at l.count l.fn.low l.bytes) × (length l.rest ≤ length l.bytes)

abbrev pub decreases-loop-left : goal.decreases-loop-left
decreases-loop-left l = l.left
