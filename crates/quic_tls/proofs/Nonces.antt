-- The nonce, item by item.
use Rattle.std.proofs.Common.{◌≡◌, ℕ, List, [], ◌∷◌, length, refl, slice_index_or, arith}
use Rattle.std.specs.Prelude.{bit_xor}
use Rattle.quic_tls.specs.Nonce.{joined}

pub joined_is : (iv : List ℕ) (n : ℕ) → length iv ≡ n → n ≡ 12 → (a b c d e f g h : ℕ)
    → bit_xor (slice_index_or iv 0 0) 0 ∷ bit_xor (slice_index_or iv 1 0) 0 ∷ bit_xor (slice_index_or iv 2 0) 0
    ∷ bit_xor (slice_index_or iv 3 0) 0 ∷ bit_xor (slice_index_or iv 4 0) a ∷ bit_xor (slice_index_or iv 5 0) b
    ∷ bit_xor (slice_index_or iv 6 0) c ∷ bit_xor (slice_index_or iv 7 0) d ∷ bit_xor (slice_index_or iv 8 0) e
    ∷ bit_xor (slice_index_or iv 9 0) f ∷ bit_xor (slice_index_or iv 10 0) g ∷ bit_xor (slice_index_or iv 11 0) h ∷ []
    ≡ joined iv (0 ∷ 0 ∷ 0 ∷ 0 ∷ a ∷ b ∷ c ∷ d ∷ e ∷ f ∷ g ∷ h ∷ [])
joined_is (i ∷ j ∷ k ∷ l ∷ m ∷ o ∷ p ∷ q ∷ r ∷ s ∷ t ∷ u ∷ []) n long twelve a b c d e f g h = refl
joined_is (i ∷ j ∷ k ∷ l ∷ m ∷ o ∷ p ∷ q ∷ r ∷ s ∷ t ∷ u ∷ v ∷ xs) n long twelve a b c d e f g h =
    absurd (omega (arith, long, twelve))
joined_is xs n long twelve a b c d e f g h = absurd (omega (arith, long, twelve))
