use Rattle.std.proofs.Common.{arith, sym, ◌∙◌}
use Rattle.quic_ranges.proofs.SubtractLemmas.{intersections-void}
use Rattle.std.proofs.lemmas.Grind.{common_steps}
use Rattle.quic_ranges.proofs.range_set.vec_range_set.find_intersections.Goals as goal

pub returns-then-x-clause-intersections : goal.returns-then-x-clause-intersections
returns-then-x-clause-intersections c =
    c.clear.ensures.items ∙ sym (intersections-void c.args.x.now c.args.runs.now c.if-x.true)

pub loop-run-preserved : goal.loop-run-preserved
loop-run-preserved c = grind (arith, common_steps)

pub returns-clause-intersections : goal.returns-clause-intersections
returns-clause-intersections c = grind (arith, common_steps)
