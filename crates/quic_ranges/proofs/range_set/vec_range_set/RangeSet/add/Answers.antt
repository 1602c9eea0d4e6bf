use Rattle.std.proofs.Common.{◌≡◌, false, true, ◌++◌, ◌∷◌, [], ap, sym, ◌∙◌, append_assoc, arith, rules}
use Rattle.quic_ranges.proofs.StepLemmas.{on_err, IsRunsOf-sum_step, IsRunsOf-sum_kept}
use Rattle.std.proofs.lemmas.Grind.{common_steps}
use Rattle.quic_ranges.proofs.range_set.vec_range_set.RangeSet.add.Goals as goal

pub loop-run-preserved : goal.loop-run-preserved
loop-run-preserved c = record {
  parts = c.loop-run.invariant.parts ∙ ap (λ l. c.loop-run.yielded ++ l) c.in-Some.ensures.steps
      ∙ sym (append_assoc c.loop-run.yielded (c.in-Some.run' ∷ []) c.next.new.self);
  runs = IsRunsOf-sum_step c.args.self.now c.loop-run.yielded c.loop-run.self-inside.runs c.join.new.runs c.in-Some.run'
      c.loop-run.invariant.runs c.in_ok-join.ensures.union;
}

pub returns-in_err-join-clause-err : goal.returns-in_err-join-clause-err
returns-in_err-join-clause-err c =
    on_err c.from_residual.result _ (record {
      treated = c.loop-run.yielded;
      rest = c.in-Some.run' ∷ c.next.new.self;
      parts = c.loop-run.invariant.parts ∙ ap (λ l. c.loop-run.yielded ++ l) c.in-Some.ensures.steps;
      runs = rw c.in_err-join.ensures.err c.loop-run.invariant.runs;
    })

pub returns-in_err-join-clause-no_change : goal.returns-in_err-join-clause-no_change
returns-in_err-join-clause-no_change c h =
    let parts = c.loop-run.invariant.parts ∙ ap (λ l. c.loop-run.yielded ++ l) c.in-Some.ensures.steps in
    let kept =
    IsRunsOf-sum_kept c.args.self.now c.args.other.now c.loop-run.yielded c.next.new.self
    c.loop-run.self-inside.runs c.in-Some.run' h parts c.loop-run.invariant.runs in
    let never : false ≡ true = c.in_err-join.ensures.no_more_runs c.loop-run.self-inside.runs kept (omega arith) in
    absurd cc

pub returns-in-Ok-clause-union : goal.returns-in-Ok-clause-union
returns-in-Ok-clause-union c = search rules

pub invariant_of-self-in_err-join : goal.invariant_of-self-in_err-join
invariant_of-self-in_err-join c = grind (arith, common_steps)

pub loop-run-init : goal.loop-run-init
loop-run-init c = grind (arith, common_steps)

pub returns-clause-union : goal.returns-clause-union
returns-clause-union c = grind (arith, common_steps)
