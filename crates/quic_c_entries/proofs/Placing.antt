-- Where a number is among the runs that entries describe.
use Rattle.std.proofs.Common.{◌≡◌, ℕ, zero, suc, ◌-◌, ◌<◌, ◌≤◌, true, false, ltb, leb, List, [], ◌∷◌, length, get_or, refl, sym, ap, ◌∙◌, arith}
use Rattle.std.proofs.Math.ListN.{get_or-map}
use Rattle.std.proofs.lemmas.List.{length-map}
use Rattle.std.specs.List.Sorted.{IsPartitionPoint, IsPartitionedBy}
use Rattle.std.specs.declared.ops.Range.{Range}
use Rattle.quic_ranges.specs.Runs.{IsMaximalRuns, member}
use Rattle.quic_ranges.specs.Places.{ends_below, starts_upto}
use Rattle.quic_ranges.proofs.PlacesLemmas.{ends_below-all, ends_below-others, ends_partition, starts_partition, starts_upto-above, starts_upto-length}
use Rattle.quic_ranges.proofs.RemovalLemmas.{member-place}
use Rattle.quic_c_entries.specs.declared.words.CRange.{CRange}
use Rattle.quic_c_entries.specs.Entries.{range_of, runs_of}

-- what is past the end
abbrev pub nowhere : CRange
nowhere = record { start = 0; end = 0 }

pub run_at : (words : List CRange) (k : ℕ)
    → get_or (runs_of words) k (record { start = 0; end = 0 }) ≡ range_of (get_or words k nowhere)
run_at words k = get_or-map range_of words k nowhere

pub many : (words : List CRange) → length (runs_of words) ≡ length words
many words = length-map words range_of

-- ---- where a number is

pub ends_place : (x i : ℕ) (words : List CRange) → i ≤ length words
    → IsPartitionPoint (λ (w : CRange). ltb w.end x ≡ true) (λ w. ltb w.end x ≡ false) words i
    → ends_below (runs_of words) x ≡ i
ends_place x i [] le p = omega arith
ends_place x zero (word ∷ words) le p = rw (p.1 0 word (omega arith) (omega arith)) refl
ends_place x (suc i) (word ∷ words) le p =
    rw (p.0 0 word (omega arith) (omega arith))
    (ap suc (ends_place x i words (omega arith) (
      λ k d lo hi. p.0 (suc k) d (omega arith) (omega arith),
      λ k d lo hi. p.1 (suc k) d (omega arith) (omega arith),
    )))

pub starts_place : (x i : ℕ) (words : List CRange) → i ≤ length words
    → IsPartitionPoint (λ (w : CRange). leb w.start x ≡ true) (λ w. leb w.start x ≡ false) words i
    → starts_upto (runs_of words) x ≡ i
starts_place x i [] le p = omega arith
starts_place x zero (word ∷ words) le p = rw (p.1 0 word (omega arith) (omega arith)) refl
starts_place x (suc i) (word ∷ words) le p =
    rw (p.0 0 word (omega arith) (omega arith))
    (ap suc (starts_place x i words (omega arith) (
      λ k d lo hi. p.0 (suc k) d (omega arith) (omega arith),
      λ k d lo hi. p.1 (suc k) d (omega arith) (omega arith),
    )))

pub ends_ordered : (x : ℕ) (words : List CRange) → IsMaximalRuns (runs_of words)
    → IsPartitionedBy (λ (w : CRange). ltb w.end x) words
ends_ordered x words h i j d le lt e =
    let before =
    ends_partition x (runs_of words) h i j (range_of d) le (omega (arith, lt, many words))
    (ap (λ (r : Range ℕ). ltb r.end x) (get_or-map range_of words j d) ∙ e) in
    ap (λ (r : Range ℕ). ltb r.end x) (sym (get_or-map range_of words i d)) ∙ before

pub starts_ordered : (x : ℕ) (words : List CRange) → IsMaximalRuns (runs_of words)
    → IsPartitionedBy (λ (w : CRange). leb w.start x) words
starts_ordered x words h i j d le lt e =
    let before =
    starts_partition x (runs_of words) h i j (range_of d) le (omega (arith, lt, many words))
    (ap (λ (r : Range ℕ). leb r.start x) (get_or-map range_of words j d) ∙ e) in
    ap (λ (r : Range ℕ). leb r.start x) (sym (get_or-map range_of words i d)) ∙ before

pub all_end_below : (words : List CRange) (x : ℕ) → IsMaximalRuns (runs_of words) → 0 < length words
    → (get_or words (length words - 1) nowhere).end < x → ends_below (runs_of words) x ≡ length words
all_end_below words x h some lt =
    let last : length words ≡ suc (length words - 1) = omega (arith, some) in
    let end : (get_or (runs_of words) (length words - 1) (record { start = 0; end = 0 })).end < x =
    rw (run_at words (length words - 1)) lt in
    ends_below-all 0 x (length words - 1) (record { start = 0; end = 0 }) (runs_of words) h (many words ∙ last) end
    ∙ sym last

pub others_end_below : (words : List CRange) (x : ℕ) → IsMaximalRuns (runs_of words) → 0 < length words
    → (get_or words (length words - 1) nowhere).start ≤ x → x ≤ (get_or words (length words - 1) nowhere).end
    → ends_below (runs_of words) x ≡ length words - 1
others_end_below words x h some lo hi =
    let last : length words ≡ suc (length words - 1) = omega (arith, some) in
    let from : (get_or (runs_of words) (length words - 1) (record { start = 0; end = 0 })).start ≤ x =
    rw (run_at words (length words - 1)) lo in
    let to : x ≤ (get_or (runs_of words) (length words - 1) (record { start = 0; end = 0 })).end =
    rw (run_at words (length words - 1)) hi in
    ends_below-others 0 x (length words - 1) (record { start = 0; end = 0 }) (runs_of words) h (many words ∙ last) from to

pub all_start_upto : (words : List CRange) (x : ℕ) → IsMaximalRuns (runs_of words) → 0 < length words
    → (get_or words (length words - 1) nowhere).start ≤ x → length words ≡ starts_upto (runs_of words) x
all_start_upto words x h some le =
    let from : (get_or (runs_of words) (length words - 1) (record { start = 0; end = 0 })).start ≤ x =
    rw (run_at words (length words - 1)) le in
    let last =
    starts_upto-above 0 (length words - 1) x (record { start = 0; end = 0 }) (runs_of words) h (omega (arith, some, many words)) from in
    omega (arith, last, starts_upto-length x (runs_of words), many words, some)

pub member_at : (words : List CRange) (x k : ℕ) → IsMaximalRuns (runs_of words) → starts_upto (runs_of words) x ≡ suc k
    → ltb x (get_or words k nowhere).end ≡ member (runs_of words) x
member_at words x k h e =
    ap (λ (r : Range ℕ). ltb x r.end) (sym (run_at words k))
    ∙ sym (member-place 0 x k (record { start = 0; end = 0 }) (runs_of words) h e)
