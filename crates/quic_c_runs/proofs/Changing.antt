-- What the calls return.
use Rattle.std.proofs.Common.{◌≡◌, ℕ, ◌+◌, Bool, List, length, sym, subst}
use Rattle.std.specs.declared.ops.Range.{Range}
use Rattle.quic_ranges.specs.Intersections.{intersections}
use Rattle.quic_ranges.specs.Runs.{IsMaximalRuns, IsRunsOf}
use Rattle.quic_ranges.specs.Splices.{BecomesRunsOf}
use Rattle.quic_c_entries.specs.declared.words.CRange.{CRange}
use Rattle.quic_c_entries.specs.declared.change.Splice.{Splice}
use Rattle.quic_c_entries.specs.Changes.{Plans, after_change}
use Rattle.quic_c_entries.specs.Entries.{range_of, runs_of}
use Rattle.quic_c_entries.proofs.Making.{one_more}
use Rattle.quic_c_runs.specs.declared.words.CRuns.{CRuns}
use Rattle.quic_c_runs.specs.Sets.{BecomesAt, LacksEntry, entries_at, runs_at}
use Rattle.quic_c_runs.specs.Moves.{MadeAt}

-- the entries of a call are those that the set names; what is said of them if they are a set, by a union or a difference
module _ (op : List (Range ℕ) → Range ℕ → ℕ → Bool) (found words : List CRange) (x : CRange) (is : found ≡ words) where
  pub planned : (change : Splice) → (IsMaximalRuns (runs_of found) → Plans (op (runs_of found) (range_of x)) found change)
      → IsMaximalRuns (runs_of words) → Plans (op (runs_of words) (range_of x)) words change
  planned change plan =
      subst (λ (l : List CRange). IsMaximalRuns (runs_of l) → Plans (op (runs_of l) (range_of x)) l change) is plan

  pub unchanged : (IsMaximalRuns (runs_of found) → IsRunsOf (op (runs_of found) (range_of x)) (runs_of found))
      → IsMaximalRuns (runs_of words) → IsRunsOf (op (runs_of words) (range_of x)) (runs_of words)
  unchanged same =
      subst (λ (l : List CRange). IsMaximalRuns (runs_of l) → IsRunsOf (op (runs_of l) (range_of x)) (runs_of l)) is same

pub becomes_at : (test : ℕ → Bool) (old new : List CRange) (before after : CRuns) (change : Splice)
    → Plans test (entries_at old before) change → MadeAt old before change new after
    → BecomesAt test old before new after
becomes_at test old new before after change plan made =
    let runs : BecomesRunsOf test (runs_at old before) (runs_at new after) =
    subst (λ (l : List CRange). BecomesRunsOf test (runs_at old before) (runs_of l)) (sym made.runs) plan.runs in
    record { runs = runs; set = record { within = made.only.within; maximal = runs.runs.0 } }

pub lacks_entry : (test : ℕ → Bool) (old : List CRange) (before : CRuns) (change : Splice)
    → Plans test (entries_at old before) change → before.first ≡ 0 → before.count ≡ length old
    → length (after_change (entries_at old before) change) ≡ before.count + 1 → LacksEntry test old before
lacks_entry test old before change plan front full more = record {
  front = front;
  full = full;
  more = one_more test (entries_at old before) change before.count plan more;
}

-- the parts of those entries that were found are the parts of the entries that the set names
pub found_in : (x : Range ℕ) (given words found : List CRange) → given ≡ words
    → (IsMaximalRuns (runs_of given) → intersections (runs_of found) x ≡ intersections (runs_of given) x)
    → IsMaximalRuns (runs_of words) → intersections (runs_of found) x ≡ intersections (runs_of words) x
found_in x given words found is same =
    subst (λ (l : List CRange). IsMaximalRuns (runs_of l) → intersections (runs_of found) x ≡ intersections (runs_of l) x) is same
