-- ACKs of the sets that entries describe (RFC 9000, section 19.3).
use Rattle.std.specs.Prelude.{◌≡◌, ℕ, ◌<◌, ◌^◌, ◌⊎◌, ◌≢◌, ℤ, true, List, [], ◌∷◌, length, Option, Some, None}
use Rattle.quic_ranges.specs.Runs.{member}
use Rattle.quic_frame_fields.specs.declared.frame.ack.EcnCounts.{EcnCounts}
use Rattle.quic_frame_fields.specs.Numbers.{AreNumeric}
use Rattle.quic_c_entries.specs.declared.words.CRange.{CRange}
use Rattle.quic_c_entries.specs.Entries.{first_runs}
use Rattle.quic_c_sets.specs.Sets.{IsSet}
use Rattle.quic_results.specs.declared.results.Failure.{Failure}
use Rattle.quic_results.specs.declared.results.Failure.TheVariants as failure
use Rattle.quic_results.specs.Results.{failed}

-- the counts of ECT(0), ECT(1) and ECN-CE, or none
abbrev pub counts_in : List ℕ → Option EcnCounts
counts_in (ect0 ∷ ect1 ∷ ce ∷ []) = Some (record { ect0 = ect0; ect1 = ect1; ce = ce })
counts_in counts = None

-- The first entries of an array are a nonempty set, and there is an ACK of it: its numbers, the delay and three counts,
-- or none, have encodings.
pub record DescribesSetAck (delay : ℕ) (words : List CRange) (count : ℕ) (counts : List ℕ) : Type 0 where
  pub set : IsSet words count
  pub some : 0 < count
  pub short : (n : ℕ) → member (first_runs count words) n ≡ true → n < 2 ^ 62
  pub delayed : delay < 2 ^ 62
  pub three : (length counts ≡ 0) ⊎ (length counts ≡ 3)
  pub counted : AreNumeric counts

-- What is reported if no ACK is described: the runs, if they aren't a set or are an empty one; else the number of
-- counts, if that is impossible; else that a number has no encoding.
abbrev pub IsReason : List CRange → ℕ → List ℕ → Failure → Type 0
IsReason words count counts why =
    (IsSet words count × (0 < count) → ⊥) × (why ≡ failure.Ranges)
    ⊎ IsSet words count × (0 < count) × (length counts ≢ 0) × (length counts ≢ 3) × (why ≡ failure.Length)
    ⊎ IsSet words count × (0 < count) × ((length counts ≡ 0) ⊎ (length counts ≡ 3)) × (why ≡ failure.Number)

-- A call returned that.
abbrev pub IsRefusal : List CRange → ℕ → List ℕ → ℤ → Type 0
IsRefusal words count counts result = (why : Failure) × (result ≡ failed why) × IsReason words count counts why
