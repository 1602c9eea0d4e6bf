-- A change of the entries that a set names. No public clause cites this module.
use Rattle.std.specs.Prelude.{◌≡◌, ℕ, List, take, drop}
use Rattle.quic_c_entries.specs.declared.words.CRange.{CRange}
use Rattle.quic_c_entries.specs.declared.change.Splice.{Splice}
use Rattle.quic_c_entries.specs.Changes.{after_change}
use Rattle.quic_c_runs.specs.declared.words.CRuns.{CRuns}
use Rattle.quic_c_runs.specs.Sets.{ChangesOnly, entries_at}

-- The change was made.
pub record MadeAt (old : List CRange) (before : CRuns) (change : Splice) (new : List CRange) (after : CRuns) : Type 0 where
  pub runs : entries_at new after ≡ after_change (entries_at old before) change
  pub only : ChangesOnly old new after
