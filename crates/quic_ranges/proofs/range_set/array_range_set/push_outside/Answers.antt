use Rattle.std.proofs.Common.{arith}
use Rattle.std.proofs.lemmas.Grind.{common_steps}
use Rattle.quic_ranges.proofs.range_set.array_range_set.push_outside.Goals as goal

pub loop-other-preserved : goal.loop-other-preserved
loop-other-preserved c = grind (arith, common_steps)

pub returns-in_ok-map_err-2-clause-ok : goal.returns-in_ok-map_err-2-clause-ok
returns-in_ok-map_err-2-clause-ok c = grind (arith, common_steps)

pub returns-else-start-end-clause-ok : goal.returns-else-start-end-clause-ok
returns-else-start-end-clause-ok c = grind (arith, common_steps)

pub returns-in_err-map_err-2-clause-err : goal.returns-in_err-map_err-2-clause-err
returns-in_err-map_err-2-clause-err c = grind (arith, common_steps)

pub returns-in_err-map_err-clause-err : goal.returns-in_err-map_err-clause-err
returns-in_err-map_err-clause-err c = grind (arith, common_steps)
