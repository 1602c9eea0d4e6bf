use Rattle.std.proofs.Common.{arith, refl}
use Rattle.quic_ranges.proofs.RemovalLemmas.{IsRunsOf-apart}
use Rattle.quic_c_entries.specs.Entries.{range_of, runs_of}
use Rattle.quic_c_entries.proofs.Planning.{most, plan_removal}
use Rattle.quic_c_entries.proofs.change.removal.Goals as goal

pub returns-clause-some : goal.returns-clause-some
returns-clause-some c h =
    plan_removal c.args.runs.now c.args.x c.count_ends_below-from.result c.count_starts_upto-to.result _ _ _ h (omega arith)
    (c.count_ends_below-from.ensures.count h) (c.count_starts_upto-to.ensures.count h) (omega arith) refl refl c.of.ensures

pub returns-then-from-to-clause-none : goal.returns-then-from-to-clause-none
returns-then-from-to-clause-none c h =
    IsRunsOf-apart (runs_of c.args.runs.now) (range_of c.args.x) c.count_ends_below-from.result
    c.count_starts_upto-to.result h (omega arith)
    (c.count_ends_below-from.ensures.count h) (c.count_starts_upto-to.ensures.count h) c.if-from-to.true

pub returns-clause-fits : goal.returns-clause-fits
returns-clause-fits c =
    let two = most c.of.result in
    record { ordered = omega arith; within = omega arith; one_more = omega (arith, two) }
