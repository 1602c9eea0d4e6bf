use Rattle.std.proofs.Common.{◌≡◌, ◌+◌, ◌-◌, length, arith}
use Rattle.quic_ranges.proofs.MergeLemmas.{IsRunsOf-sum_next, IsRunsOf-sum_run, run-behind}
use Rattle.std.proofs.lemmas.Grind.{common_steps}
use Rattle.quic_ranges.proofs.range_set.vec_range_set.sum_of.Goals as goal

pub loop-next-preserved : goal.loop-next-preserved
loop-next-preserved c = record {
  within = omega arith;
  joined = IsRunsOf-sum_next _ c.args.others.now c.loop-next.sum c.join.new.runs c.loop-next.next
      (record { start = 0; end = 0 }) (omega arith) c.loop-next.invariant.joined c.in_ok-join.ensures.union;
}

pub loop-run-preserved : goal.loop-run-preserved
loop-run-preserved c = record {
  within = omega arith;
  joined = IsRunsOf-sum_run c.args.runs.now _ c.loop-next.sum c.join-in-loop-run.new.runs c.loop-run.run-index
      (record { start = 0; end = 0 }) (omega arith) c.loop-next.invariant.joined c.in_ok-join-2.ensures.union;
}

pub loop-other-preserved : goal.loop-other-preserved
loop-other-preserved c =
    let next : c.loop-run.next + (c.loop-other.other-index + 1) ≡ c.loop-run.next + c.loop-other.other-index + 1 =
    omega arith in
    let run =
    run-behind c.args.others.now c.loop-run.next (length c.args.others.now - c.loop-run.next)
    c.loop-other.other-index (record { start = 0; end = 0 }) (omega arith) in
    rw next (IsRunsOf-sum_next c.args.runs.now c.args.others.now c.loop-other.sum c.join-in-loop-other.new.runs
    (c.loop-run.next + c.loop-other.other-index) (record { start = 0; end = 0 }) (omega arith)
    c.loop-other.invariant (rw run at c.in_ok-join-3.ensures.union))

pub loop-other-init : goal.loop-other-init
loop-other-init c = grind (arith, common_steps)

pub returns : goal.returns
returns c = grind (arith, common_steps)

pub overflow_add-next : goal.overflow_add-next
overflow_add-next c = grind (arith, common_steps)
