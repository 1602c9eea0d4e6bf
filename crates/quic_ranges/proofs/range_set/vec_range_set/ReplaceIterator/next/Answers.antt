use Rattle.std.proofs.Common.{arith, rules}
use Rattle.std.proofs.lemmas.Grind.{common_steps}
use Rattle.quic_ranges.proofs.range_set.vec_range_set.ReplaceIterator.next.Goals as goal

pub returns-clause-steps : goal.returns-clause-steps
returns-clause-steps c = search rules

pub returns-in_err-replaced-clause-steps : goal.returns-in_err-replaced-clause-steps
returns-in_err-replaced-clause-steps c = grind (arith, common_steps)
