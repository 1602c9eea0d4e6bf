-- Sets of packet numbers whose runs begin anywhere in a caller's array.
use Rattle.std.specs.Prelude.{◌≡◌, ℕ, ◌+◌, ◌≤◌, Bool, List, length, take, drop}
use Rattle.std.specs.declared.ops.Range.{Range}
use Rattle.quic_ranges.specs.Runs.{IsMaximalRuns, IsRunsOf}
use Rattle.quic_ranges.specs.Splices.{BecomesRunsOf}
use Rattle.quic_c_entries.specs.declared.words.CRange.{CRange}
use Rattle.quic_c_entries.specs.Entries.{runs_of}
use Rattle.quic_c_runs.specs.declared.words.CRuns.{CRuns}

-- the entries that a set names
abbrev pub entries_at : List CRange → CRuns → List CRange
entries_at words set = take set.count (drop set.first words)

-- the ranges that they describe
abbrev pub runs_at : List CRange → CRuns → List (Range ℕ)
runs_at words set = runs_of (entries_at words set)

-- The entries are in the array, and are the maximal runs of a set.
pub record IsSetAt (words : List CRange) (set : CRuns) : Type 0 where
  pub within : set.first + set.count ≤ length words
  pub maximal : IsMaximalRuns (runs_at words set)

-- The set became that of the numbers that pass the test, which is another.
pub record BecomesAt (test : ℕ → Bool) (old : List CRange) (before : CRuns) (new : List CRange) (after : CRuns) : Type 0 where
  pub runs : BecomesRunsOf test (runs_at old before) (runs_at new after)
  pub set : IsSetAt new after

-- The set fills the array, and the set of the numbers that pass the test has one more run.
pub record LacksEntry (test : ℕ → Bool) (words : List CRange) (set : CRuns) : Type 0 where
  pub front : set.first ≡ 0
  pub full : set.count ≡ length words
  pub more : (runs : List (Range ℕ)) → IsRunsOf test runs → length runs ≡ set.count + 1

-- No entries changed but those that the set now names, and these are in the array.
pub record ChangesOnly (old new : List CRange) (set : CRuns) : Type 0 where
  pub within : set.first + set.count ≤ length new
  pub before : take set.first new ≡ take set.first old
  pub behind : drop (set.first + set.count) new ≡ drop (set.first + set.count) old
