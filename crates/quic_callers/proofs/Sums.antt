-- The numbers of an acknowledgement, one after the other.
use Rattle.std.proofs.Common.{◌≡◌, ◌<◌, ℕ, zero, suc, ◌+◌, ◌-◌, Bool, true, false, List, ◌∷◌, sum, refl, sym, ap, ◌∙◌, arith}
use Rattle.std.proofs.lemmas.List.Sums.{sum_by-cons}
use Rattle.std.specs.Range.{range_inclusive_start, range_inclusive_end, range_inclusive_exhausted, range_inclusive_len, range_inclusive_left}
use Rattle.std.specs.declared.ops.RangeInclusive.{RangeInclusive}
use Rattle.quic_ranges.specs.Numbers.{count_from}

-- the distance of two numbers, as ranges have it
abbrev pub gap : ℕ → ℕ → ℕ
gap a b = b - a

-- the numbers that remain in a range
abbrev pub left_in : RangeInclusive ℕ → List ℕ
left_in range = count_from (range_inclusive_start range) (range_inclusive_left gap range)

counted : (first next n m : ℕ) → n + 1 ≡ m → (0 < n → next ≡ first + 1) → count_from first m ≡ first ∷ count_from next n
counted first next zero m e on = ap (count_from first) (let one : m ≡ suc zero = omega (arith, e) in one)
counted first next (suc n) m e on =
    let more : m ≡ suc (suc n) = omega (arith, e) in
    let next_is : suc first ≡ next = omega (arith, on (omega arith)) in
    ap (count_from first) more ∙ ap (λ (k : ℕ). first ∷ count_from k (suc n)) next_is

not_exhausted : (range : RangeInclusive ℕ) → 0 < range_inclusive_left gap range
    → range_inclusive_exhausted range ≡ false
not_exhausted range some = by_flag (range_inclusive_exhausted range) some
  where
    by_flag : (b : Bool) → 0 < range_inclusive_len gap (range_inclusive_start range) (range_inclusive_end range) b
        → b ≡ false
    by_flag true some = absurd (omega (arith, some))
    by_flag false some = refl

-- a number that a range gave came first in it
pub number_came : (old new : RangeInclusive ℕ) (x : ℕ) → x ≡ range_inclusive_start old
    → range_inclusive_left gap new + 1 ≡ range_inclusive_left gap old
    → (range_inclusive_exhausted new ≡ false → range_inclusive_start new ≡ range_inclusive_start old + 1)
    → left_in old ≡ x ∷ left_in new
number_came old new x first fewer on =
    counted (range_inclusive_start old) (range_inclusive_start new) (range_inclusive_left gap new)
    (range_inclusive_left gap old) fewer (λ some. on (not_exhausted new some))
    ∙ ap (λ (n : ℕ). n ∷ left_in new) (sym first)

-- the numbers that were added and those that are left, after another one
pub added : (total sum_so_far x others : ℕ) (old new : RangeInclusive ℕ) → left_in old ≡ x ∷ left_in new
    → total ≡ sum_so_far + (sum (left_in old) + others) → total ≡ (sum_so_far + x) + (sum (left_in new) + others)
added total sum_so_far x others old new step all =
    let first : sum (left_in old) ≡ x + sum (left_in new) = ap sum step ∙ sum_by-cons (λ n. n) x (left_in new) in
    omega (arith, first, all)
