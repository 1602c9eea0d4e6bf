use Rattle.quic_wire.proofs.Walks.{IsUnderWay}
use Rattle.quic_wire.proofs.calls.is_lost.Given as goal

abbrev pub invariant-loop-item : goal.invariant-loop-item
invariant-loop-item l =
    (goal.iterator-loop-item).can_next l.item-iterator ×
    (goal.iterator-loop-item).is_finite l.item-iterator ×
    IsUnderWay l.front l.item-iterator
