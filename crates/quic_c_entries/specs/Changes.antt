-- A planned change of the runs of a set, which are the first entries of an array.
use Rattle.std.specs.Prelude.{◌≡◌, ℕ, ◌+◌, ◌-◌, ◌≤◌, Bool, List, [], ◌∷◌, ◌++◌, length, take, drop}
use Rattle.quic_ranges.specs.Splices.{BecomesRunsOf}
use Rattle.quic_c_entries.specs.declared.words.CRange.{CRange}
use Rattle.quic_c_entries.specs.declared.change.Splice.{Splice}
use Rattle.quic_c_entries.specs.declared.change.Substitute.{Substitute}
use Rattle.quic_c_entries.specs.declared.change.Substitute.TheVariants.{Nothing, One, Two}
use Rattle.quic_c_entries.specs.Entries.{runs_of}

-- the runs that replace others
abbrev pub words_of : Substitute → List CRange
words_of Nothing = []
words_of (One run) = run ∷ []
words_of (Two front back) = front ∷ back ∷ []

-- the runs after the change
abbrev pub after_change : List CRange → Splice → List CRange
after_change words s = take s.from words ++ (words_of s.by ++ drop s.to words)

-- The change is within the runs, and adds at most one.
pub record FitsRoom (words : List CRange) (s : Splice) : Type 0 where
  pub ordered : s.from ≤ s.to
  pub within : s.to ≤ length words
  pub one_more : length (words_of s.by) ≤ s.to - s.from + 1

-- The change turns the runs into those of the numbers that pass the test, which are another set.
pub record Plans (test : ℕ → Bool) (words : List CRange) (s : Splice) : Type 0 where
  pub fits : FitsRoom words s
  pub runs : BecomesRunsOf test (runs_of words) (runs_of (after_change words s))

-- The change was made.
pub record Made (old : List CRange) (before : ℕ) (change : Splice) (new : List CRange) (after : ℕ) : Type 0 where
  pub runs : take after new ≡ after_change (take before old) change
  pub within : after ≤ length new
  pub behind : drop after new ≡ drop after old

-- The array is full, and the change needs one more run.
pub record SetNeedsMore (old : List CRange) (before : ℕ) (change : Splice) : Type 0 where
  pub full : before ≡ length old
  pub more : length (after_change (take before old) change) ≡ before + 1
