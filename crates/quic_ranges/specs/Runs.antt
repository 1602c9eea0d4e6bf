-- Finite sets of numbers, seen as the ascending list of their maximal runs.
use Rattle.std.specs.Prelude.{◌≡◌, ℕ, ◌+◌, ◌<◌, ◌≤◌, Bool, true, false, ◌&&◌, ◌||◌, not, nat_lt, nat_le, List, [], ◌∷◌, ◌++◌}
use Rattle.std.specs.declared.ops.Range.{Range}

-- y is in the range; an empty or reversed range has no number
abbrev pub in_range : Range ℕ → ℕ → Bool
in_range r y = nat_le r.start y && nat_lt y r.end

-- y is in one of the ranges
abbrev pub member : List (Range ℕ) → ℕ → Bool
member [] y = false
member (r ∷ rs) y = in_range r y || member rs y

-- the ranges are nonempty, ascend and never touch, and the first begins at `least` or later
abbrev pub RunsFrom : ℕ → List (Range ℕ) → Type 0
RunsFrom least [] = Unit {0}
RunsFrom least (r ∷ rs) = (least ≤ r.start) × (r.start < r.end) × RunsFrom (r.end + 1) rs

-- the maximal runs of a set, ascending
abbrev pub IsMaximalRuns : List (Range ℕ) → Type 0
IsMaximalRuns rs = RunsFrom 0 rs

-- rs are the maximal runs of the set of the numbers that pass p
abbrev pub IsRunsOf : (ℕ → Bool) → List (Range ℕ) → Type 0
IsRunsOf p rs = IsMaximalRuns rs × ((y : ℕ) → member rs y ≡ p y)

-- y is in the set, or in the range
abbrev pub in_union : List (Range ℕ) → Range ℕ → ℕ → Bool
in_union rs x y = member rs y || in_range x y

-- y is in the set, and not in the range
abbrev pub in_difference : List (Range ℕ) → Range ℕ → ℕ → Bool
in_difference rs x y = member rs y && not (in_range x y)

-- y is in the set, and in the range
abbrev pub in_intersection : List (Range ℕ) → Range ℕ → ℕ → Bool
in_intersection rs x y = member rs y && in_range x y

-- y is in the first set, and not in the second
abbrev pub in_subtraction : List (Range ℕ) → List (Range ℕ) → ℕ → Bool
in_subtraction rs ss y = member rs y && not (member ss y)

-- y is in one of the sets
abbrev pub in_sum : List (Range ℕ) → List (Range ℕ) → ℕ → Bool
in_sum rs ss y = member rs y || member ss y

-- the first runs of ss were applied to the set; test says which numbers are in the outcome
pub record TreatsBeginning (test : List (Range ℕ) → List (Range ℕ) → ℕ → Bool)
    (rs ss after : List (Range ℕ)) : Type 0 where
  pub treated : List (Range ℕ)
  pub rest : List (Range ℕ)
  pub parts : ss ≡ treated ++ rest
  pub runs : IsRunsOf (test rs treated) after

-- y is the least member
pub record IsLeastMember (rs : List (Range ℕ)) (y : ℕ) : Type 0 where
  pub present : member rs y ≡ true
  pub least : (z : ℕ) → member rs z ≡ true → y ≤ z

-- y is the greatest member
pub record IsGreatest (rs : List (Range ℕ)) (y : ℕ) : Type 0 where
  pub present : member rs y ≡ true
  pub greatest : (z : ℕ) → member rs z ≡ true → z ≤ y
