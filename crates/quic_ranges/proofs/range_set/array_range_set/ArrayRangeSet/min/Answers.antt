use Rattle.std.proofs.Common.{sym, ◌∙◌}
use Rattle.quic_ranges.proofs.RunsLemmas.{IsLeastMember-first}
use Rattle.quic_ranges.proofs.range_set.array_range_set.ArrayRangeSet.min.Goals as goal

pub returns-clause-some : goal.returns-clause-some
returns-clause-some c =
    IsLeastMember-first c.in_ok-first.first c.next.new.self c.args.self.now
    (sym c.iter.ensures.runs ∙ c.in_ok-first.ensures.steps) c.iter.ensures.maximal
