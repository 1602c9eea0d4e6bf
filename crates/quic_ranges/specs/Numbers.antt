-- The numbers that ranges hold, ascending.
use Rattle.std.specs.Prelude.{ℕ, ◌-◌, ◌<◌, ◌≤◌, suc, zero, List, [], ◌∷◌, ◌++◌}
use Rattle.std.specs.declared.ops.Range.{Range}

-- n numbers from `first` on
abbrev pub count_from : ℕ → ℕ → List ℕ
count_from first zero = []
count_from first (suc n) = first ∷ count_from (suc first) n

-- the numbers of a range
unfoldable pub numbers : Range ℕ → List ℕ
numbers r = count_from r.start (r.end - r.start)

-- the numbers of ranges, one after another
abbrev pub numbers_of : List (Range ℕ) → List ℕ
numbers_of [] = []
numbers_of (r ∷ rs) = numbers r ++ numbers_of rs

-- no range is empty or reversed
abbrev pub AreNonempty : List (Range ℕ) → Type 0
AreNonempty [] = Unit {0}
AreNonempty (r ∷ rs) = (r.start < r.end) × AreNonempty rs

-- the numbers ascend, and the first is `least` or more
abbrev pub AscendFrom : ℕ → List ℕ → Type 0
AscendFrom least [] = Unit {0}
AscendFrom least (x ∷ xs) = (least ≤ x) × AscendFrom (suc x) xs
