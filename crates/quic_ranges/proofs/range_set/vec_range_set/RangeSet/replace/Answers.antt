use Rattle.std.proofs.Common.{arith, ◌≡◌, ℕ, List, [], refl, ap, rules, ◌∙◌}
use Rattle.std.specs.declared.ops.Range.{Range}
use Rattle.std.specs.Slice.Iter.{iter_rest}
use Rattle.quic_ranges.specs.Intersections.{intersections}
use Rattle.quic_ranges.proofs.RunsLemmas.{IsRunsOf-intersections, IsRunsOf-unique}
use Rattle.quic_ranges.specs.Runs.{IsMaximalRuns, IsRunsOf, in_intersection}
use Rattle.std.proofs.lemmas.Grind.{common_steps}
use Rattle.quic_ranges.proofs.range_set.vec_range_set.RangeSet.replace.Goals as goal

pub returns : goal.returns
returns c =
    let items : iter_rest c.iter.result ≡ intersections c.self.inside.runs c.args.x = c.iter.ensures.rest
    ∙ c.deref.ensures.value ∙ c.in_ok-find_intersections.ensures.intersections
    ∙ ap (λ l. intersections l c.args.x) c.as_slice.ensures in (
      (refl, (λ _. tt), (rw (← c.self.view_is) c.in_ok-join.ensures.union, tt)),
      record {
        union = tt;
        intersections = rw (items, ← c.self.view_is) (IsRunsOf-intersections c.args.x c.self.inside.runs c.self.invariant);
        void = λ _. refl;
        no_more_runs = λ rs _ _ _. refl;
      },
    )

pub invariant_of-self-in-Break-branch-2 : goal.invariant_of-self-in-Break-branch-2
invariant_of-self-in-Break-branch-2 c = grind (arith, common_steps)

no_part : (runs old : List (Range ℕ)) (x : Range ℕ) → IsMaximalRuns runs → runs ≡ old
    → IsRunsOf (in_intersection old x) [] → intersections runs x ≡ []
no_part runs old x maximal same none =
    IsRunsOf-unique (in_intersection runs x) (intersections runs x) [] (IsRunsOf-intersections x runs maximal)
    (rw same none)

pub returns-in_err-find_intersections : goal.returns-in_err-find_intersections
returns-in_err-find_intersections c =
    let runs = c.self.inside.runs in
    let viewed : runs ≡ c.args.self.now = c.self.view_is in (
      (refl, (λ _. tt), (search rules, search rules)),
      record {
        union = tt;
        intersections = search rules;
        void = search rules;
        no_more_runs = λ rs none union few.
            let empty : intersections c.as_slice.result.now c.args.x ≡ [] =
            ap (λ l. intersections l c.args.x) c.as_slice.ensures ∙ no_part runs c.args.self.now c.args.x c.self.invariant viewed none in
            absurd (cc (c.in_err-find_intersections.ensures.none empty));
      },
    )
