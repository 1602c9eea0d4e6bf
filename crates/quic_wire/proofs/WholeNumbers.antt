-- A written part and an expected number determine one packet number.
use Rattle.std.proofs.Common.{◌≡◌, ℕ, ◌+◌, ◌-◌, ◌*◌, ◌/◌, ◌%◌, ◌^◌, ◌<◌, ◌≤◌, refl, sym, arith, inl, inr}
use Rattle.quic_base.specs.One.{ExactlyOne}
use Rattle.quic_crypto.proofs.Windows.{expands_from}
use Rattle.quic_crypto.specs.PacketNumbers.{Expands, IsInRange, SizeFor, low_part, number_size, window_of}
use Rattle.quic_crypto.specs.declared.packet_number.PacketNumber.{PacketNumber}
use Rattle.quic_crypto.specs.declared.packet_number.PacketNumber.TheVariants.{U8, U16, U24, U32}

one_at : (low window expected : ℕ) → low < window → window % 2 ≡ 0 → 2 ^ 62 % window ≡ 0 → expected < 2 ^ 62
    → ((n m : ℕ) → Expands low window expected n → Expands low window expected m → n ≡ m)
    → ExactlyOne (Expands low window expected)
one_at low window expected fits even divides small same =
    let least : ℕ = expected - (window / 2 - 1) in
    let it : ℕ = least + (low + 2 ^ 62 - least) % window in
    let is : Expands low window expected it = expands_from low window expected fits even divides small in
    record { it = it; is = is; only = λ other found. same other it found is }

same8 : (low expected n m : ℕ) → low < 2 ^ 8 → Expands low (2 ^ 8) expected n → Expands low (2 ^ 8) expected m
    → n ≡ m
same8 low expected n m fits (inl a) (inl b) =
    omega (arith, a.residue, b.residue, a.above, a.below, b.above, b.below)
same8 low expected n m fits (inl a) (inr b) = omega (arith, fits, a.residue, a.below, b.0, b.1)
same8 low expected n m fits (inr a) (inl b) = omega (arith, fits, b.residue, b.below, a.0, a.1)
same8 low expected n m fits (inr a) (inr b) = omega (arith, a.1, b.1)

same16 : (low expected n m : ℕ) → low < 2 ^ 16 → Expands low (2 ^ 16) expected n → Expands low (2 ^ 16) expected m
    → n ≡ m
same16 low expected n m fits (inl a) (inl b) =
    omega (arith, a.residue, b.residue, a.above, a.below, b.above, b.below)
same16 low expected n m fits (inl a) (inr b) = omega (arith, fits, a.residue, a.below, b.0, b.1)
same16 low expected n m fits (inr a) (inl b) = omega (arith, fits, b.residue, b.below, a.0, a.1)
same16 low expected n m fits (inr a) (inr b) = omega (arith, a.1, b.1)

same24 : (low expected n m : ℕ) → low < 2 ^ 24 → Expands low (2 ^ 24) expected n → Expands low (2 ^ 24) expected m
    → n ≡ m
same24 low expected n m fits (inl a) (inl b) =
    omega (arith, a.residue, b.residue, a.above, a.below, b.above, b.below)
same24 low expected n m fits (inl a) (inr b) = omega (arith, fits, a.residue, a.below, b.0, b.1)
same24 low expected n m fits (inr a) (inl b) = omega (arith, fits, b.residue, b.below, a.0, a.1)
same24 low expected n m fits (inr a) (inr b) = omega (arith, a.1, b.1)

same32 : (low expected n m : ℕ) → low < 2 ^ 32 → Expands low (2 ^ 32) expected n → Expands low (2 ^ 32) expected m
    → n ≡ m
same32 low expected n m fits (inl a) (inl b) =
    omega (arith, a.residue, b.residue, a.above, a.below, b.above, b.below)
same32 low expected n m fits (inl a) (inr b) = omega (arith, fits, a.residue, a.below, b.0, b.1)
same32 low expected n m fits (inr a) (inl b) = omega (arith, fits, b.residue, b.below, a.0, a.1)
same32 low expected n m fits (inr a) (inr b) = omega (arith, a.1, b.1)

pub one_number : (number : PacketNumber) (expected : ℕ) → IsInRange number → expected < 2 ^ 62
    → ExactlyOne (Expands (low_part number) (window_of number) expected)
one_number (U8 x) expected fits small =
    one_at x (2 ^ 8) expected fits refl refl small (λ n m found other. same8 x expected n m fits found other)
one_number (U16 x) expected fits small =
    one_at x (2 ^ 16) expected fits refl refl small (λ n m found other. same16 x expected n m fits found other)
one_number (U24 x) expected fits small =
    one_at x (2 ^ 24) expected fits refl refl small (λ n m found other. same24 x expected n m fits found other)
one_number (U32 x) expected fits small =
    one_at x (2 ^ 32) expected fits refl refl small (λ n m found other. same32 x expected n m fits found other)

pub number_again : (number : PacketNumber) (n acked expected : ℕ) → low_part number ≡ n % window_of number
    → SizeFor (n - acked) (number_size number) → acked ≤ expected → expected ≤ n + 1
    → Expands (low_part number) (window_of number) expected n
number_again (U8 x) n acked expected low size after before =
    let near : 2 * (n - acked) < 2 ^ 8 = size.0 in
    inl (record { residue = sym low; above = omega (arith, before); below = omega (arith, near, after) })
number_again (U16 x) n acked expected low size after before =
    let near : 2 * (n - acked) < 2 ^ 16 = size.0 in
    inl (record { residue = sym low; above = omega (arith, before); below = omega (arith, near, after) })
number_again (U24 x) n acked expected low size after before =
    let near : 2 * (n - acked) < 2 ^ 24 = size.0 in
    inl (record { residue = sym low; above = omega (arith, before); below = omega (arith, near, after) })
number_again (U32 x) n acked expected low size after before =
    let near : 2 * (n - acked) < 2 ^ 32 = size.0 in
    inl (record { residue = sym low; above = omega (arith, before); below = omega (arith, near, after) })
