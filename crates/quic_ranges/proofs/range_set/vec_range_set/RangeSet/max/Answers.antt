use Rattle.std.proofs.Common.{◌<◌, arith, sym, ◌∙◌}
use Rattle.quic_ranges.proofs.RunsLemmas.{IsGreatest-last}
use Rattle.quic_ranges.proofs.range_set.vec_range_set.RangeSet.max.Goals as goal

pub overflow_sub-result : goal.overflow_sub-result
overflow_sub-result c =
    let at =
    IsGreatest-last c.in_ok-last.last c.next_back.new.self c.args.self.now
    (sym c.iter.ensures.runs ∙ c.in_ok-last.ensures.steps) c.iter.ensures.maximal in
    let nonempty : c.in_ok-last.last.start < c.in_ok-last.last.end = at.0 in
    omega arith

pub returns-clause-some : goal.returns-clause-some
returns-clause-some c =
    (IsGreatest-last c.in_ok-last.last c.next_back.new.self c.args.self.now
    (sym c.iter.ensures.runs ∙ c.in_ok-last.ensures.steps) c.iter.ensures.maximal).1
