use Rattle.std.proofs.Common.{◌≡◌, false, true, ◌++◌, ◌∷◌, [], ap, sym, ◌∙◌, append_assoc, arith}
use Rattle.quic_ranges.proofs.StepLemmas.{on_err, IsRunsOf-subtraction_step, IsRunsOf-subtraction_kept}
use Rattle.std.proofs.lemmas.Grind.{common_steps}
use Rattle.quic_ranges.proofs.range_set.vec_range_set.RangeSet.subtract.Goals as goal

pub loop-run-preserved : goal.loop-run-preserved
loop-run-preserved c = record {
  parts = c.loop-run.invariant.parts ∙ ap (λ l. c.loop-run.yielded ++ l) c.in-Some.ensures.steps
      ∙ sym (append_assoc c.loop-run.yielded (c.in-Some.run' ∷ []) c.next.new.self);
  runs = IsRunsOf-subtraction_step c.args.self.now c.loop-run.yielded c.loop-run.self-inside.runs c.cut.new.runs
      c.in-Some.run' c.loop-run.invariant.runs c.in_ok-cut.ensures.difference;
}

pub returns-in_err-cut-clause-err : goal.returns-in_err-cut-clause-err
returns-in_err-cut-clause-err c =
    on_err c.from_residual.result _ (record {
      treated = c.loop-run.yielded;
      rest = c.in-Some.run' ∷ c.next.new.self;
      parts = c.loop-run.invariant.parts ∙ ap (λ l. c.loop-run.yielded ++ l) c.in-Some.ensures.steps;
      runs = rw c.in_err-cut.ensures.err c.loop-run.invariant.runs;
    })

pub returns-in_err-cut-clause-no_change : goal.returns-in_err-cut-clause-no_change
returns-in_err-cut-clause-no_change c h =
    let parts = c.loop-run.invariant.parts ∙ ap (λ l. c.loop-run.yielded ++ l) c.in-Some.ensures.steps in
    let kept =
    IsRunsOf-subtraction_kept c.args.self.now c.args.other.now c.loop-run.yielded c.next.new.self
    c.loop-run.self-inside.runs c.in-Some.run' h parts c.loop-run.invariant.runs in
    let never : false ≡ true = c.in_err-cut.ensures.no_more_runs c.loop-run.self-inside.runs kept (omega arith) in
    absurd cc

pub difference_of-requires-clause-others : goal.difference_of-requires-clause-others
difference_of-requires-clause-others c = grind (arith, common_steps)

pub difference_of-requires-clause-runs : goal.difference_of-requires-clause-runs
difference_of-requires-clause-runs c = grind (arith, common_steps)

pub invariant_of-self-in_err-cut : goal.invariant_of-self-in_err-cut
invariant_of-self-in_err-cut c = grind (arith, common_steps)

pub loop-run-init : goal.loop-run-init
loop-run-init c = grind (arith, common_steps)

pub returns-clause-difference : goal.returns-clause-difference
returns-clause-difference c = grind (arith, common_steps)

pub returns-in-Ok-clause-difference : goal.returns-in-Ok-clause-difference
returns-in-Ok-clause-difference c = grind (arith, common_steps)
