-- The ranges that entries of a caller's array describe.
use Rattle.std.specs.Prelude.{◌≡◌, ℕ, ◌≤◌, List, length, take, drop, map}
use Rattle.std.specs.declared.ops.Range.{Range}
use Rattle.quic_c_entries.specs.declared.words.CRange.{CRange}

-- the range from a number to below another
abbrev pub span : ℕ → ℕ → Range ℕ
span start end = record { start = start; end = end }

-- the range that an entry describes
abbrev pub range_of : CRange → Range ℕ
range_of words = record { start = words.start; end = words.end }

abbrev pub runs_of : List CRange → List (Range ℕ)
runs_of words = map range_of words

-- the ranges that the first entries of an array describe
abbrev pub first_runs : ℕ → List CRange → List (Range ℕ)
first_runs count words = runs_of (take count words)

-- These runs are the first entries now, this many, and the entries after them didn't change.
pub record Stores (runs : List (Range ℕ)) (old new : List CRange) (count : ℕ) : Type 0 where
  pub stored : first_runs count new ≡ runs
  pub within : count ≤ length new
  pub behind : drop count new ≡ drop count old
