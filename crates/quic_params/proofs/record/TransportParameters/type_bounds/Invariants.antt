use Rattle.std.proofs.Common.{ℕ, ◌<◌}
use Rattle.std.specs.Prelude.{IfSome}
use Rattle.quic_params.specs.Order.{id_of_index}
use Rattle.quic_params.specs.Range.{IsTypedAs}
use Rattle.quic_params.specs.Record.{value_of}
use Rattle.quic_params.specs.Table.{row_of}
use Rattle.quic_params.proofs.record.TransportParameters.type_bounds.Given as goal

abbrev pub invariant-loop-id : goal.invariant-loop-id
invariant-loop-id l =
    (k : ℕ) → k < l.id-index → IfSome (value_of l.self (id_of_index k)) (IsTypedAs (row_of (id_of_index k)).kind)
