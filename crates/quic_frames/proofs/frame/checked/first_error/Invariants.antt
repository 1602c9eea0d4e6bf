use Rattle.std.proofs.Common.{List}
use Rattle.quic_frame_fields.specs.Payload.{TypedFrame}
use Rattle.quic_frames.proofs.CheckedTurns.{HasReadBy}
use Rattle.quic_frames.proofs.frame.checked.first_error.Given as goal

abbrev pub invariant-loop-item : goal.invariant-loop-item
invariant-loop-item l =
    (goal.iterator-loop-item).can_next l.item-iterator ×
    (goal.iterator-loop-item).is_finite l.item-iterator ×
    ((found : List TypedFrame) × HasReadBy l.fn.rules l.payload found l.item-iterator)
