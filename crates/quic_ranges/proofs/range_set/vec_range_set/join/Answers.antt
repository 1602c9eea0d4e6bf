use Rattle.std.proofs.Common.{◌≡◌, ◌+◌, length, arith}
use Rattle.quic_ranges.specs.Runs.{in_union}
use Rattle.quic_ranges.proofs.ExtensionLemmas.{length-pushed}
use Rattle.std.proofs.lemmas.Grind.{common_steps}
use Rattle.quic_ranges.proofs.range_set.vec_range_set.join.Goals as goal

pub returns-in_err-push-in-AfterAll-clause-no_more_runs : goal.returns-in_err-push-in-AfterAll-clause-no_more_runs
returns-in_err-push-in-AfterAll-clause-no_more_runs c rs h le =
    let more : length rs ≡ length c.args.runs.now + 1 =
    length-pushed (in_union c.args.runs.now c.args.x.now) c.args.runs.now rs c.args.x.now c.in-AfterAll.ensures.1 h in
    absurd (omega arith)

pub returns-in-BeforeLast-clause-changed : goal.returns-in-BeforeLast-clause-changed
returns-in-BeforeLast-clause-changed c = rw c.in-BeforeLast.ensures at c.join_among.ensures.changed

pub returns-in_ok-push-in-AfterAll-clause-union : goal.returns-in_ok-push-in-AfterAll-clause-union
returns-in_ok-push-in-AfterAll-clause-union c = grind (arith, common_steps)
