use Rattle.std.proofs.Common.{arith}
use Rattle.quic_ranges.proofs.PlacesLemmas.{run-at}
use Rattle.std.proofs.lemmas.Grind.{common_steps}
use Rattle.quic_ranges.proofs.range_set.array_range_set.runs_outside.Goals as goal

pub touched-requires-clause-nonempty : goal.touched-requires-clause-nonempty
touched-requires-clause-nonempty c =
    (run-at 0 c.loop-run.run-index (record { start = 0; end = 0 }) c.args.runs.now c.requires.runs (omega arith)).1

pub loop-run-preserved : goal.loop-run-preserved
loop-run-preserved c = grind (arith, common_steps)

pub returns-clause-ok : goal.returns-clause-ok
returns-clause-ok c = grind (arith, common_steps)

pub returns-in_err-push_outside-clause-err : goal.returns-in_err-push_outside-clause-err
returns-in_err-push_outside-clause-err c = grind (arith, common_steps)
