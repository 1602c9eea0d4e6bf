use Rattle.std.proofs.Common.{◌≡◌, ℕ, ◌<◌, List, length, ap, ◌∙◌, subst, arith}
use Rattle.std.specs.declared.ops.Range.{Range}
use Rattle.quic_ranges.specs.Intersections.{subtracted}
use Rattle.quic_ranges.specs.Runs.{IsRunsOf, in_subtraction}
use Rattle.quic_ranges.proofs.RunsLemmas.{IsRunsOf-unique}
use Rattle.quic_ranges.proofs.SubtractLemmas.{IsRunsOf-subtracted}
use Rattle.quic_ranges.proofs.range_set.array_range_set.ArrayRangeSet.subtract.Goals as goal

pub returns-in_err-left-clause-inline : goal.returns-in_err-left-clause-inline
returns-in_err-left-clause-inline c rs h le =
    let runs : IsRunsOf (in_subtraction c.args.self.now c.args.other.now) (subtracted c.args.self.now c.args.other.now) =
    rw (← c.self.view_is, ← c.other.view_is) (IsRunsOf-subtracted c.self.inside.runs.items c.other.inside.runs.items
    c.self.invariant.0 c.other.invariant.0) in
    let same : length rs ≡ length (subtracted c.args.self.now c.args.other.now) =
    ap length (IsRunsOf-unique (in_subtraction c.args.self.now c.args.other.now) rs _ h runs) in
    let whole : subtracted c.as_slice.result.now c.as_slice-2.result.now ≡ subtracted c.args.self.now c.args.other.now =
    ap (λ l. subtracted l c.as_slice-2.result.now) (c.as_slice.ensures ∙ c.self.view_is)
    ∙ ap (subtracted c.args.self.now) (c.as_slice-2.ensures ∙ c.other.view_is) in
    let more : 2 < length (subtracted c.args.self.now c.args.other.now) =
    subst (λ (l : List (Range ℕ)). 2 < length l) whole c.in_err-left.ensures.err in
    absurd (omega arith)

pub invariant_of-self : goal.invariant_of-self
invariant_of-self c =
    let items : c.in_ok-left.left.items ≡ subtracted c.self.inside.runs.items c.other.inside.runs.items =
    c.in_ok-left.ensures.ok ∙ ap (λ l. subtracted l c.as_slice-2.result.now) c.as_slice.ensures
    ∙ ap (subtracted c.self.inside.runs.items) c.as_slice-2.ensures in
    let runs =
    IsRunsOf-subtracted c.self.inside.runs.items c.other.inside.runs.items c.self.invariant.0 c.other.invariant.0 in
    (rw items runs.0, c.in_ok-left.ensures.capacity)

pub returns-clause-difference : goal.returns-clause-difference
returns-clause-difference c =
    let items : c.in_ok-left.left.items ≡ subtracted c.self.inside.runs.items c.other.inside.runs.items =
    c.in_ok-left.ensures.ok ∙ ap (λ l. subtracted l c.as_slice-2.result.now) c.as_slice.ensures
    ∙ ap (subtracted c.self.inside.runs.items) c.as_slice-2.ensures in
    let runs =
    IsRunsOf-subtracted c.self.inside.runs.items c.other.inside.runs.items c.self.invariant.0 c.other.invariant.0 in
    rw (items, ← c.self.view_is, ← c.other.view_is) runs
