use Rattle.std.proofs.Common.{◌≡◌, ℕ, List, ◌∷◌, Option, Some, None, IfSome, IfNone, subst, sym}
use Rattle.std.specs.declared.ops.Range.{Range}
use Rattle.quic_ranges.specs.Runs.{IsMaximalRuns}
use Rattle.quic_ranges.proofs.RunsLemmas.{IsMaximalRuns-rest}
use Rattle.quic_ranges.proofs.range_set.vec_range_set.RangeSet.pop_min.Goals as goal

-- the runs are still maximal, whether one is removed or not
still : (o : Option (Range ℕ)) (rs ss : List (Range ℕ)) → IfSome o (λ run. rs ≡ run ∷ ss) → IfNone o (ss ≡ rs)
    → IsMaximalRuns rs → IsMaximalRuns ss
still (Some r) rs ss some none h = IsMaximalRuns-rest r ss rs some h
still None rs ss some none h = subst IsMaximalRuns (sym none) h

pub invariant_of-self : goal.invariant_of-self
invariant_of-self c =
    still c.pop_first.result c.self.inside.runs c.pop_first.new.self c.pop_first.ensures.some c.pop_first.ensures.unchanged c.self.invariant
