use Rattle.std.proofs.Common.{arith, rules}
use Rattle.std.proofs.lemmas.Grind.{common_steps}
use Rattle.quic_c.proofs.fill_ranges.quic_wire_ack_ranges_fill_.Goals as goal

pub returns-clause-ranges : goal.returns-clause-ranges
returns-clause-ranges c = search rules

pub returns-then-filled-eq0-clause-invalid : goal.returns-then-filled-eq0-clause-invalid
returns-then-filled-eq0-clause-invalid c = grind (arith, common_steps)

pub returns-then-filled-eq0-clause-ranges : goal.returns-then-filled-eq0-clause-ranges
returns-then-filled-eq0-clause-ranges c = grind (arith, common_steps)

pub returns-then-is_empty-clause-ranges : goal.returns-then-is_empty-clause-ranges
returns-then-is_empty-clause-ranges c = grind (arith, common_steps)
