-- The numbers that an acknowledgement has.
use Rattle.std.specs.Prelude.{ℕ, ◌+◌, ◌-◌, List, [], ◌∷◌, ◌++◌}
use Rattle.quic_ranges.specs.Numbers.{count_from}

-- the numbers of ranges, each of which is given by its least and its greatest one
abbrev pub numbers_in : List (ℕ × ℕ) → List ℕ
numbers_in [] = []
numbers_in (range ∷ ranges) = count_from range.0 (range.1 + 1 - range.0) ++ numbers_in ranges
