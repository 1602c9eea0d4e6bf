use Rattle.std.proofs.Common.{◌≡◌, ◌++◌, take}
use Rattle.std.specs.String.{string_bytes}
use Rattle.std.specs.List.{flat_map}
use Rattle.quic_params.specs.Table.{ids}
use Rattle.quic_params.specs.Writing.{value_written}
use Rattle.quic_text.specs.Printed.{line_bytes}
use Rattle.quic_text.specs.ParameterText.{value_lines}
use Rattle.quic_text.proofs.print.params.print_record.Given as goal

-- the lines of the first parameters
abbrev pub invariant-loop-id : goal.invariant-loop-id
invariant-loop-id l =
    string_bytes l.text ≡ string_bytes l.fn.text ++ flat_map line_bytes
    (flat_map (λ id. value_lines id (value_written l.params id)) (take l.id-index ids))
