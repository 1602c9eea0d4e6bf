-- Where a number is among runs, as binary search finds it. No public clause cites this module.
use Rattle.std.specs.Prelude.{ℕ, suc, zero, min, max, cond, nat_lt, nat_le, List, [], ◌∷◌}
use Rattle.std.specs.declared.ops.Range.{Range}

-- how many runs, from the first on, end below x
abbrev pub ends_below : List (Range ℕ) → ℕ → ℕ
ends_below [] x = zero
ends_below (r ∷ rs) x = cond (nat_lt r.end x) (suc (ends_below rs x)) zero

-- how many runs, from the first on, start at x or before
abbrev pub starts_upto : List (Range ℕ) → ℕ → ℕ
starts_upto [] x = zero
starts_upto (r ∷ rs) x = cond (nat_le r.start x) (suc (starts_upto rs x)) zero

-- what the runs that a..b touches become
abbrev pub hull : List (Range ℕ) → ℕ → ℕ → Range ℕ
hull [] a b = record { start = a; end = b }
hull (r ∷ rs) a b = cond (nat_lt r.end a) (hull rs a b)
    (cond (nat_lt b r.start) (record { start = a; end = b }) (hull rs (min a r.start) (max b r.end)))
