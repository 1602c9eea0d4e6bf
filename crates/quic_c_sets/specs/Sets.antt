-- Sets of packet numbers, as the entries of a caller's array describe them.
use Rattle.std.specs.Prelude.{◌≡◌, ℕ, ◌+◌, ◌≤◌, Bool, List, length, drop}
use Rattle.std.specs.declared.ops.Range.{Range}
use Rattle.quic_ranges.specs.Runs.{IsMaximalRuns, IsRunsOf}
use Rattle.quic_ranges.specs.Splices.{BecomesRunsOf}
use Rattle.quic_c_entries.specs.declared.words.CRange.{CRange}
use Rattle.quic_c_entries.specs.Entries.{first_runs}

-- The first count entries of an array are the maximal runs of a set.
pub record IsSet (words : List CRange) (count : ℕ) : Type 0 where
  pub within : count ≤ length words
  pub maximal : IsMaximalRuns (first_runs count words)

-- The first entries were a set, and now the first are the set of the numbers that pass the test, which is another; the
-- entries after these didn't change.
pub record Becomes (test : ℕ → Bool) (old : List CRange) (before : ℕ) (new : List CRange) (after : ℕ) : Type 0 where
  pub set : IsSet old before
  pub runs : BecomesRunsOf test (first_runs before old) (first_runs after new)
  pub within : after ≤ length new
  pub behind : drop after new ≡ drop after old

-- They are the set of the numbers that pass the test.
pub record Stays (test : ℕ → Bool) (words : List CRange) (count : ℕ) : Type 0 where
  pub set : IsSet words count
  pub runs : IsRunsOf test (first_runs count words)

-- They are a set and fill the array, and the set of the numbers that pass the test has one more run.
pub record LacksRoom (test : ℕ → Bool) (words : List CRange) (count : ℕ) : Type 0 where
  pub set : IsSet words count
  pub full : count ≡ length words
  pub more : (runs : List (Range ℕ)) → IsRunsOf test runs → length runs ≡ count + 1
