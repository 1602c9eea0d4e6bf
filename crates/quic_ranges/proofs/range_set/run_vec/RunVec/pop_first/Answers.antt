use Rattle.std.proofs.Common.{arith}
use Rattle.std.proofs.lemmas.Grind.{common_steps}
use Rattle.quic_ranges.proofs.range_set.run_vec.RunVec.pop_first.Goals as goal

pub returns-then-self-len-clause-some : goal.returns-then-self-len-clause-some
returns-then-self-len-clause-some c = grind (arith, common_steps)

pub returns-else-self-len-clause-some : goal.returns-else-self-len-clause-some
returns-else-self-len-clause-some c = grind (arith, common_steps)

pub returns-in_err-first-clause-none : goal.returns-in_err-first-clause-none
returns-in_err-first-clause-none c = grind (arith, common_steps)

pub drain-requires-clause-in_bounds : goal.drain-requires-clause-in_bounds
drain-requires-clause-in_bounds c = grind (arith, common_steps)
