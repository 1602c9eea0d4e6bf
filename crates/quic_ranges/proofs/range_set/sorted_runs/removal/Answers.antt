use Rattle.std.proofs.Common.{arith, refl}
use Rattle.quic_ranges.proofs.RemovalLemmas.{Splices-removal, IsRunsOf-apart}
use Rattle.quic_ranges.proofs.range_set.sorted_runs.removal.Goals as goal

pub returns-then-from-to-clause-none : goal.returns-then-from-to-clause-none
returns-then-from-to-clause-none c =
    IsRunsOf-apart c.args.runs.now c.args.x.now c.count_ends_below-from.result c.count_starts_upto-to.result c.requires
    (omega arith) c.count_ends_below-from.ensures.count c.count_starts_upto-to.ensures.count c.if-from-to.true

pub returns-clause-some : goal.returns-clause-some
returns-clause-some c =
    Splices-removal c.args.runs.now c.args.x.now (record { start = 0; end = 0 }) c.count_ends_below-from.result
    c.count_starts_upto-to.result _ _ _ c.requires (omega arith) c.count_ends_below-from.ensures.count
    c.count_starts_upto-to.ensures.count (omega arith) refl refl c.of.ensures
