use Rattle.quic_callers.proofs.Counts.{IsCounted}
use Rattle.quic_callers.proofs.payloads.all_stream_data.Given as goal

abbrev pub invariant-loop-item : goal.invariant-loop-item
invariant-loop-item l =
    (goal.iterator-loop-item).can_next l.item-iterator ×
    (goal.iterator-loop-item).is_finite l.item-iterator ×
    IsCounted l.payload l.item-iterator l.count
