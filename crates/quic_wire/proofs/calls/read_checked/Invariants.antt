use Rattle.quic_wire.proofs.CheckedWalks.{HasComeBy}
use Rattle.quic_wire.proofs.calls.read_checked.Given as goal

abbrev pub invariant-loop-item : goal.invariant-loop-item
invariant-loop-item l =
    (goal.iterator-loop-item).can_next l.item-iterator ×
    (goal.iterator-loop-item).is_finite l.item-iterator ×
    HasComeBy l.fn.rules l.payload l.frames.items l.item-iterator
