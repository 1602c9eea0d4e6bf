use Rattle.std.proofs.Common.{◌≡◌, ◌+◌, length, arith}
use Rattle.quic_ranges.specs.Runs.{in_union}
use Rattle.quic_ranges.specs.Splices.{Splices}
use Rattle.quic_ranges.proofs.SpliceLemmas.{length-spliced}
use Rattle.std.proofs.lemmas.Grind.{common_steps}
use Rattle.quic_ranges.proofs.range_set.array_range_set.join_among.Goals as goal

pub returns-in_err-apply-clause-no_more_runs : goal.returns-in_err-apply-clause-no_more_runs
returns-in_err-apply-clause-no_more_runs c rs h le =
    let splices : Splices (in_union c.args.runs.now.items c.args.x.now) c.args.runs.now.items c.in-Some.change =
    rw (← c.as_slice.ensures) c.in-Some.ensures.some in
    let more : length rs ≡ length c.args.runs.now.items + 1 =
    length-spliced (in_union c.args.runs.now.items c.args.x.now) c.args.runs.now.items rs c.in-Some.change splices
    c.in_err-apply.ensures.more_runs h in
    absurd (omega arith)

pub returns-clause-union : goal.returns-clause-union
returns-clause-union c = grind (arith, common_steps)
