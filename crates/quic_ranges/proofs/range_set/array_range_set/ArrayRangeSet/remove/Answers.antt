use Rattle.std.proofs.Common.{◌≡◌, ℕ, ◌+◌, List, length, ap, arith}
use Rattle.std.specs.declared.ops.Range.{Range}
use Rattle.quic_ranges.specs.Runs.{IsRunsOf, in_difference}
use Rattle.quic_ranges.specs.Splices.{Splices}
use Rattle.quic_ranges.proofs.SpliceLemmas.{length-spliced}
use Rattle.std.proofs.lemmas.Grind.{common_steps}
use Rattle.quic_ranges.proofs.range_set.array_range_set.ArrayRangeSet.remove.Goals as goal
use Rattle.quic_ranges.proofs.range_set.array_range_set.ArrayRangeSet.remove.Goals.{After-from_residual}

-- a change that fails would make one more run
more_runs : (c : After-from_residual) (rs : List (Range ℕ)) → IsRunsOf (in_difference c.args.self.now c.args.x) rs
    → length rs ≡ length c.self.inside.runs.items + 1
more_runs c rs h =
    let splices : Splices (in_difference c.self.inside.runs.items c.args.x) c.self.inside.runs.items c.in-Some.change =
    rw (← c.as_slice.ensures) c.in-Some.ensures.some in
    length-spliced (in_difference c.self.inside.runs.items c.args.x) c.self.inside.runs.items rs c.in-Some.change
    splices c.in_err-apply.ensures.more_runs (rw c.self.view_is h)

pub returns-in_err-apply-clause-no_more_runs : goal.returns-in_err-apply-clause-no_more_runs
returns-in_err-apply-clause-no_more_runs c rs h le =
    let more = more_runs c rs h in
    let same : length c.self.inside.runs.items ≡ length c.args.self.now = ap length c.self.view_is in
    absurd (omega arith)

pub returns-in_err-apply-clause-inline : goal.returns-in_err-apply-clause-inline
returns-in_err-apply-clause-inline c rs h le =
    let more = more_runs c rs h in
    let room = c.self.invariant.1 in
    absurd (c.in_err-apply.ensures.no_room (omega arith))

pub invariant_of-self : goal.invariant_of-self
invariant_of-self c = grind (arith, common_steps)

pub invariant_of-self-2 : goal.invariant_of-self-2
invariant_of-self-2 c = grind (arith, common_steps)

pub returns-clause-difference : goal.returns-clause-difference
returns-clause-difference c = grind (arith, common_steps)
