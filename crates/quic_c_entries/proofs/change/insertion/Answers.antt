use Rattle.std.proofs.Common.{arith}
use Rattle.quic_c_entries.proofs.Planning.{plan_plain, plan_touching, plan_inside}
use Rattle.quic_c_entries.proofs.change.insertion.Goals as goal
use Rattle.quic_c_entries.proofs.change.insertion.Goals.{else-first-x-via-then-first-x+else-x-first, else-first-x-via-else-first-x}

pub returns-then-from-to-clause-some : goal.returns-then-from-to-clause-some
returns-then-from-to-clause-some c h =
    plan_plain c.args.runs.now c.args.x c.count_ends_below-from.result c.count_starts_upto-to.result h
    (omega arith) (c.count_ends_below-from.ensures.count h)
    (c.count_starts_upto-to.ensures.count h) (omega arith)

pub returns-then-x-first-clause-none : goal.returns-then-x-first-clause-none
returns-then-x-first-clause-none c h =
    plan_inside c.args.runs.now c.args.x c.count_ends_below-from.result h (omega arith)
    (c.count_ends_below-from.ensures.count h) (omega arith) c.if-first-x.true c.if-x-first.true

pub returns-clause-some : goal.returns-clause-some
returns-clause-some c h =
    plan_touching c.args.runs.now c.args.x c.count_ends_below-from.result c.count_starts_upto-to.result _ _ h (omega arith)
    (c.count_ends_below-from.ensures.count h) (c.count_starts_upto-to.ensures.count h) c.if-from-to.false c.min-start.ensures
    c.max-end.ensures
    (λ le le'. elim c.else-first-x.branch [
      | else-first-x-via-then-first-x+else-x-first w ↦ omega arith
      | else-first-x-via-else-first-x w ↦ omega arith
    ])
