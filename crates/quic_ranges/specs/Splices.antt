-- What a planned change of a list of runs does. No public clause cites this module.
use Rattle.std.specs.Prelude.{◌≡◌, ℕ, ◌+◌, ◌-◌, ◌≤◌, Bool, List, [], ◌∷◌, ◌++◌, length, take, drop}
use Rattle.std.specs.declared.ops.Range.{Range}
use Rattle.quic_ranges.specs.declared.range_set.sorted_runs.Splice.{Splice}
use Rattle.quic_ranges.specs.declared.range_set.sorted_runs.Substitute.{Substitute}
use Rattle.quic_ranges.specs.declared.range_set.sorted_runs.Substitute.TheVariants.{Nothing, One, Two}
use Rattle.quic_ranges.specs.declared.range_set.sorted_runs.Extension.{Extension}
use Rattle.quic_ranges.specs.declared.range_set.sorted_runs.Extension.TheVariants.{Unchanged, Extended, AfterAll, BeforeLast}
use Rattle.quic_ranges.specs.Runs.{IsRunsOf, in_union}

-- the runs that replace others
abbrev pub substitutes : Substitute → List (Range ℕ)
substitutes Nothing = []
substitutes (One r) = r ∷ []
substitutes (Two r s) = r ∷ s ∷ []

-- the runs after the splice
abbrev pub after_splice : List (Range ℕ) → Splice → List (Range ℕ)
after_splice rs s = take s.from rs ++ (substitutes s.by ++ drop s.to rs)

-- the splice is within the runs, and adds at most one
pub record Fits (rs : List (Range ℕ)) (s : Splice) : Type 0 where
  pub ordered : s.from ≤ s.to
  pub within : s.to ≤ length rs
  pub one_more : length (substitutes s.by) ≤ s.to - s.from + 1

-- the splice turns rs into the runs of the numbers that pass p, which are another set
pub record Splices (p : ℕ → Bool) (rs : List (Range ℕ)) (s : Splice) : Type 0 where
  pub fits : Fits rs s
  pub runs : IsRunsOf p (after_splice rs s)
  pub differs : IsRunsOf p rs → ⊥

-- after are the runs of the numbers that pass p, which those of rs are not
pub record BecomesRunsOf (p : ℕ → Bool) (rs after : List (Range ℕ)) : Type 0 where
  pub runs : IsRunsOf p after
  pub differs : IsRunsOf p rs → ⊥

-- the outcome of extending the last of the runs rs by x, and the runs after it
abbrev pub Extends : Extension → List (Range ℕ) → Range ℕ → List (Range ℕ) → Type 0
Extends Unchanged rs x after = (after ≡ rs) × IsRunsOf (in_union rs x) rs
Extends Extended rs x after = BecomesRunsOf (in_union rs x) rs after
Extends AfterAll rs x after = (after ≡ rs) × BecomesRunsOf (in_union rs x) rs (rs ++ x ∷ [])
Extends BeforeLast rs x after = after ≡ rs
