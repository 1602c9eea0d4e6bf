use Rattle.quic_wire.proofs.Walks.{HasCome}
use Rattle.quic_wire.proofs.calls.read_payload.Given as goal

abbrev pub invariant-loop-item : goal.invariant-loop-item
invariant-loop-item l =
    (goal.iterator-loop-item).can_next l.item-iterator ×
    (goal.iterator-loop-item).is_finite l.item-iterator ×
    HasCome l.payload l.frames.items l.item-iterator
