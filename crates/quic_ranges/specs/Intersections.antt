-- Parts of runs, as lists. No public clause cites this module.
use Rattle.std.specs.Prelude.{ℕ, cond, min, max, nat_lt, List, [], ◌∷◌, ◌++◌}
use Rattle.std.specs.declared.ops.Range.{Range}

-- the range as a list, with nothing for an empty or reversed one
abbrev pub as_runs : ℕ → ℕ → List (Range ℕ)
as_runs a b = cond (nat_lt a b) (record { start = a; end = b } ∷ []) []

-- the nonempty parts of the runs inside the range
abbrev pub intersections : List (Range ℕ) → Range ℕ → List (Range ℕ)
intersections [] x = []
intersections (r ∷ rs) x = as_runs (max r.start x.start) (min x.end r.end) ++ intersections rs x

-- the parts of start..end outside the runs
abbrev pub outside : ℕ → ℕ → List (Range ℕ) → List (Range ℕ)
outside start end [] = as_runs start end
outside start end (r ∷ rs) = as_runs start (min end r.start) ++ outside (max start r.end) end rs

-- the parts of the runs outside the others
abbrev pub subtracted : List (Range ℕ) → List (Range ℕ) → List (Range ℕ)
subtracted [] others = []
subtracted (r ∷ rs) others = outside r.start r.end others ++ subtracted rs others
