use Rattle.std.proofs.Common.{arith}
use Rattle.quic_ranges.proofs.PlacesLemmas.{Splices-plain, Splices-touching, IsRunsOf-inside}
use Rattle.quic_ranges.proofs.range_set.sorted_runs.insertion.Goals as goal
use Rattle.quic_ranges.proofs.range_set.sorted_runs.insertion.Goals.{else-first-x-via-then-first-x+else-x-first, else-first-x-via-else-first-x}

pub returns-then-from-to-clause-some : goal.returns-then-from-to-clause-some
returns-then-from-to-clause-some c =
    Splices-plain c.args.runs.now c.args.x.now c.count_ends_below-from.result c.count_starts_upto-to.result c.requires
    (omega arith) c.count_ends_below-from.ensures.count c.count_starts_upto-to.ensures.count (omega arith)

pub returns-then-x-first-clause-none : goal.returns-then-x-first-clause-none
returns-then-x-first-clause-none c =
    IsRunsOf-inside c.args.runs.now c.args.x.now (record { start = 0; end = 0 }) c.count_ends_below-from.result
    c.requires (omega arith) c.count_ends_below-from.ensures.count (omega arith) c.if-first-x.true c.if-x-first.true

pub returns-clause-some : goal.returns-clause-some
returns-clause-some c =
    Splices-touching c.args.runs.now c.args.x.now (record { start = 0; end = 0 }) c.count_ends_below-from.result
    c.count_starts_upto-to.result c.min.result c.max.result c.requires (omega arith)
    c.count_ends_below-from.ensures.count c.count_starts_upto-to.ensures.count c.if-from-to.false c.min.ensures c.max.ensures
    (λ le le'. elim c.else-first-x.branch [
      | else-first-x-via-then-first-x+else-x-first w ↦ omega arith
      | else-first-x-via-else-first-x w ↦ omega arith
    ])
