use Rattle.std.proofs.Common.{length, ◌-◌}
use Rattle.quic_c_sets.proofs.Checking.{LooksOn}
use Rattle.quic_c_sets.proofs.checks.are_runs.Given as goal

abbrev pub invariant-loop-at : goal.invariant-loop-at
invariant-loop-at l = LooksOn l.runs l.end l.at

abbrev pub decreases-loop-at : goal.decreases-loop-at
decreases-loop-at l = length l.runs - l.at
