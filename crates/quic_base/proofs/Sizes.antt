-- The size of a number by its highest bit.
use Rattle.std.proofs.Common.{◌≡◌, ℕ, zero, suc, ◌-◌, ◌^◌, ◌<◌, ◌≤◌, Bool, true, false, eqb, inl, inr, List, [], ◌∷◌, slice_index_or, bit_or, nat_lt, if◌then◌else◌, refl, ap, ◌∙◌, arith}
use Rattle.std.proofs.Math.Nat.{pow-le-pow_right}
use Rattle.std.proofs.lemmas.Bool.{eqb-true}
use Rattle.std.proofs.lemmas.Bool.Decides.{eqb_tells, nat_tests}
use Rattle.std.proofs.lemmas.Nat.{leading_top, le_or_l, le_or_r, or_lt}
use Rattle.std.specs.Int.Count.{count_leading_zeros}
use Rattle.quic_base.specs.Varint.{size}

all_below : ℕ → (ℕ → Bool) → Bool
all_below zero test = true
all_below (suc n) test = if test n then all_below n test else false

both : (here others : Bool) → (if here then others else false) ≡ true → (here ≡ true) × (others ≡ true)
both true others e = (refl, e)
both false others e = cc

top : (n : ℕ) (test : ℕ → Bool) → all_below (suc n) test ≡ true → (test n ≡ true) × (all_below n test ≡ true)
unfolding all_below
top n test all = both (test n) (all_below n test) all

each_below : (n : ℕ) (test : ℕ → Bool) → all_below n test ≡ true → (i : ℕ) → i < n → test i ≡ true
each_below zero test all i lt = absurd (omega (arith, lt))
each_below (suc n) test all i lt = elim (eqb_tells i n) [
  | inl e ↦ ap test e.1 ∙ (top n test all).0
  | inr e ↦ each_below n test (top n test all).1 i (omega (arith, lt, e.1))
]

-- the size of a number whose highest bit is this one
abbrev size_of_bit : ℕ → ℕ
size_of_bit bit = if nat_lt bit 6 then 1 else if nat_lt bit 14 then 2 else if nat_lt bit 30 then 4 else 8

abbrev table : List ℕ
table =
    1 ∷ 1 ∷ 1 ∷ 1 ∷ 1 ∷ 1 ∷ 2 ∷ 2 ∷ 2 ∷ 2 ∷ 2 ∷ 2 ∷ 2 ∷ 2 ∷ 4 ∷ 4 ∷ 4 ∷ 4 ∷ 4 ∷ 4 ∷ 4 ∷ 4 ∷ 4 ∷ 4 ∷ 4 ∷ 4 ∷ 4 ∷ 4 ∷ 4
    ∷ 4 ∷ 8 ∷ 8 ∷ 8 ∷ 8 ∷ 8 ∷ 8 ∷ 8 ∷ 8 ∷ 8 ∷ 8 ∷ 8 ∷ 8 ∷ 8 ∷ 8 ∷ 8 ∷ 8 ∷ 8 ∷ 8 ∷ 8 ∷ 8 ∷ 8 ∷ 8 ∷ 8 ∷ 8 ∷ 8 ∷ 8 ∷ 8 ∷ 8
    ∷ 8 ∷ 8 ∷ 8 ∷ 8 ∷ 8 ∷ 8 ∷ []

is_right : ℕ → Bool
is_right bit = eqb (slice_index_or table bit 0) (size_of_bit bit)

in_table : (bit : ℕ) → bit < 64 → slice_index_or table bit 0 ≡ size_of_bit bit
unfolding all_below is_right
in_table bit lt = eqb-true _ _ (each_below 64 is_right refl bit lt)

below_bit : (bit n k : ℕ) → n < 2 ^ suc bit → bit < k → n < 2 ^ k
below_bit bit n k high lt =
    omega (arith, high, pow-le-pow_right {n = 2} (omega arith) {i = suc bit} {j = k} (omega (arith, lt)))

from_bit : (bit n k : ℕ) → 2 ^ bit ≤ n → k ≤ bit → 2 ^ k ≤ n
from_bit bit n k low le = omega (arith, low, pow-le-pow_right {n = 2} (omega arith) {i = k} {j = bit} le)

by_bit : (bit n : ℕ) → 2 ^ bit ≤ n → n < 2 ^ suc bit → size_of_bit bit ≡ size n
unfolding size
by_bit bit n low high =
    grind (
      arith,
      nat_tests,
      below_bit bit n 6 high,
      below_bit bit n 14 high,
      below_bit bit n 30 high,
      from_bit bit n 6 low,
      from_bit bit n 14 low,
      from_bit bit n 30 low,
    )

-- the lowest bit doesn't matter
same_size : (n : ℕ) → size (bit_or n 1) ≡ size n
unfolding size
same_size n = grind (arith, nat_tests, le_or_l n 1, or_lt 6 n 1, or_lt 14 n 1, or_lt 30 n 1)

-- A number's size as the table has it at its highest bit.
pub record IsInTable (n zeros : ℕ) : Type 0 where
  pub few : zeros ≤ 63
  pub size : slice_index_or table (63 - zeros) 0 ≡ size n

pub by_highest_bit : (n : ℕ) → n < 2 ^ 64 → IsInTable n (count_leading_zeros 64 (bit_or n 1))
by_highest_bit n small =
    let fits = or_lt 64 n 1 small (omega arith) in
    let top = leading_top 64 (bit_or n 1) (omega (arith, le_or_r n 1)) fits in
    let bit = top.0 in
    let is : 63 - count_leading_zeros 64 (bit_or n 1) ≡ bit = omega (arith, top.1) in
    record {
      few = omega (arith, top.1);
      size = ap (λ (k : ℕ). slice_index_or table k 0) is ∙ in_table bit (omega (arith, top.1)) ∙ by_bit bit (bit_or n 1) top.2 top.3 ∙ same_size n;
    }
