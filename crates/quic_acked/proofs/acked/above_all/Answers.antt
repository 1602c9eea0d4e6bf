use Rattle.std.proofs.Common.{◌<◌, arith, sym, ◌∙◌}
use Rattle.quic_ranges.proofs.RunsLemmas.{IsGreatest-last}
use Rattle.quic_acked.proofs.acked.above_all.Goals as goal

pub returns-in-Some : goal.returns-in-Some
returns-in-Some c = λ n is.
    let at =
    IsGreatest-last c.in-Some.last c.next_back.new.self c.args.set.now
    (sym c.iter.ensures.runs ∙ c.in-Some.ensures.steps) c.iter.ensures.maximal in
    let nonempty : c.in-Some.last.start < c.in-Some.last.end = at.0 in
    omega (arith, at.1.greatest n is)
