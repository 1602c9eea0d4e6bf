use Rattle.std.proofs.Common.{arith, ap, length, ◌∙◌}
use Rattle.quic_params.proofs.Lengths.{short_below}
use Rattle.quic_params.proofs.storing.write_number_entry_into.Goals as goal

pub write_entry_into-requires-clause-len : goal.write_entry_into-requires-clause-len
write_entry_into-requires-clause-len c =
    omega (arith, short_below c.args.value, ap length (c.filled.ensures ∙ c.fill_number.ensures))
