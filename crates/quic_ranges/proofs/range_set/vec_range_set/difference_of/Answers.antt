use Rattle.std.proofs.Common.{◌≡◌, ◌<◌, ◌≤◌, ◌++◌, length, get_or, min, ap, sym, ◌∙◌, arith}
use Rattle.std.proofs.lemmas.List.{append-nil}
use Rattle.quic_ranges.specs.Intersections.{as_runs}
use Rattle.quic_ranges.proofs.RemovalLemmas.{as_runs-full, as_runs-empty}
use Rattle.quic_ranges.proofs.MergeLemmas.{difference-spent, difference-run, difference-end, RunsFrom-behind}
use Rattle.std.proofs.lemmas.Grind.{common_steps}
use Rattle.quic_ranges.proofs.range_set.vec_range_set.difference_of.Goals as goal
use Rattle.quic_ranges.proofs.range_set.vec_range_set.difference_of.Goals.{then-start-others+in_ok-push, else-start-others, then-loop-next-test+else-others-next, else-loop-next-test, then-next-others, else-next-others, then-start-end+in_ok-push-2, else-start-end}

pub loop-next-preserved : goal.loop-next-preserved
loop-next-preserved c =
    let run = get_or c.args.runs.now c.loop-run.run-index (record { start = 0; end = 0 }) in
    let other = get_or c.args.others.now c.loop-next.next (record { start = 0; end = 0 }) in
    let rest =
    RunsFrom-behind 0 c.loop-run.run-index (record { start = 0; end = 0 }) c.args.runs.now c.requires.runs (omega arith) in
    let left : c.if-start-others.left ≡ c.loop-next.left ++ as_runs c.loop-next.start other.start = elim c.if-start-others.branch [
      | then-start-others+in_ok-push w ↦ w.left-is ∙ w.in_ok-push.ensures.ok
          ∙ ap (λ l. c.loop-next.left ++ l) (sym (as_runs-full c.loop-next.start other.start w.if-start-others.true))
      | else-start-others w ↦ w.left-is ∙ sym (append-nil c.loop-next.left)
          ∙ ap (λ l. c.loop-next.left ++ l) (sym (as_runs-empty c.loop-next.start other.start w.if-start-others.false))
    ] in
    rw (left, c.max-start.ensures) (difference-spent c.loop-next.left _ c.args.others.now _ c.loop-next.start run.end
    c.loop-next.next (record { start = 0; end = 0 }) c.requires.others rest (omega arith) c.if-others-next.true
    c.loop-next.invariant)

pub loop-run-preserved : goal.loop-run-preserved
loop-run-preserved c =
    let run = get_or c.args.runs.now c.loop-run.run-index (record { start = 0; end = 0 }) in
    let other = get_or c.args.others.now c.loop-next.next (record { start = 0; end = 0 }) in
    let left : c.if-start-end.left ≡ c.loop-next.left ++ as_runs c.loop-next.start c.if-next-others.end = elim c.if-start-end.branch [
      | then-start-end+in_ok-push-2 w ↦ w.left-is ∙ w.in_ok-push-2.ensures.ok
          ∙ ap (λ l. c.loop-next.left ++ l) (sym (as_runs-full c.loop-next.start c.if-next-others.end
          w.if-start-end.true))
      | else-start-end w ↦ w.left-is ∙ sym (append-nil c.loop-next.left)
          ∙ ap (λ l. c.loop-next.left ++ l) (sym (as_runs-empty c.loop-next.start c.if-next-others.end
          w.if-start-end.false))
    ] in
    let behind : c.loop-next.next < length c.args.others.now → run.end < other.end = λ lt. elim c.loop-next-test.branch [
      | then-loop-next-test+else-others-next w ↦ w.if-others-next.false
      | else-loop-next-test w ↦ absurd (omega arith)
    ] in
    let cut : c.loop-next.next < length c.args.others.now → c.if-next-others.end
    ≡ min run.end other.start = λ lt. elim c.if-next-others.branch [
      | then-next-others w ↦ w.end-is ∙ w.min-end.ensures
      | else-next-others w ↦ absurd (omega arith)
    ] in
    let whole : length c.args.others.now ≤ c.loop-next.next → c.if-next-others.end ≡ run.end = λ le. elim c.if-next-others.branch [
      | then-next-others w ↦ absurd (omega arith)
      | else-next-others w ↦ w.end-is
    ] in
    rw left (difference-run c.loop-next.left _ c.args.others.now _ c.loop-next.start run.end c.if-next-others.end
    c.loop-next.next (record { start = 0; end = 0 }) behind cut whole c.loop-next.invariant)

pub returns : goal.returns
returns c =
    difference-end c.loop-run.left c.args.runs.now _ c.args.others.now c.loop-run.run-index c.requires.runs
    c.requires.others c.loop-run-test.false c.loop-run.invariant

pub loop-next-init : goal.loop-next-init
loop-next-init c = grind (arith, common_steps)
