-- What is written is a Version Negotiation packet.
use Rattle.std.proofs.Common.{◌≡◌, Bool, true, false, ℕ, ◌+◌, ◌%◌, List, [], ◌∷◌, ◌++◌, length, ap, ◌∙◌, arith}
use Rattle.std.specs.Prelude.{◌==◌, ◌≢◌, slice_index}
use Rattle.std.proofs.lemmas.Bool.Decides.{nat_tests}
use Rattle.std.proofs.lemmas.List.{append_assoc}
use Rattle.quic_base.specs.ConnectionId.{long_id}
use Rattle.quic_base.specs.Number.{bytes_of}
use Rattle.quic_base.proofs.PublicLaws as law
use Rattle.quic_header_decode.specs.Places.{AnyVersion}

-- a list that isn't found empty
pub some_items : (xs : List ℕ) (empty : Bool) → empty ≡ (length xs == 0) → empty ≡ false → xs ≢ []
some_items xs empty e f nil = apart empty f (e ∙ ap (λ (ys : List ℕ). length ys == 0) nil) where
  apart : (b : Bool) → b ≡ false → b ≡ true → ⊥
  apart b p q = cc

-- its parts, one after another
pub whole : (x : ℕ) (dst src list one two three four : List ℕ) → one ≡ x ∷ 0 ∷ 0 ∷ 0 ∷ 0 ∷ [] → two ≡ one ++ long_id dst
    → three ≡ two ++ long_id src → four ≡ three ++ list
    → four ≡ x ∷ 0 ∷ 0 ∷ 0 ∷ 0 ∷ (long_id dst ++ (long_id src ++ list))
whole x dst src list one two three four a b d e =
    let start : List ℕ = x ∷ 0 ∷ 0 ∷ 0 ∷ 0 ∷ [] in
    e ∙ ap (λ (xs : List ℕ). xs ++ list) (d ∙ ap (λ (xs : List ℕ). xs ++ long_id src) (b ∙ ap (λ (xs : List ℕ). xs ++ long_id dst) a))
    ∙ append_assoc (start ++ long_id dst) (long_id src) list ∙ append_assoc start (long_id dst) (long_id src ++ list)

pub negotiation : (first : ℕ) (dst src list packet : List ℕ)
    → packet ≡ (0x80 + first % 0x80) ∷ 0 ∷ 0 ∷ 0 ∷ 0 ∷ (long_id dst ++ (long_id src ++ list))
    → AnyVersion packet 0 dst src list
unfolding bytes_of
negotiation first dst src list packet is =
    (0x80 + first % 0x80, 0 ∷ 0 ∷ 0 ∷ 0 ∷ [], is, grind (arith, nat_tests), law.is_number_4 0 (omega arith))

pub low_bits : (first : ℕ) (rest packet : List ℕ) → packet ≡ (0x80 + first % 0x80) ∷ rest
    → slice_index packet 0 % 0x80 ≡ first % 0x80
low_bits first rest packet is =
    let at : slice_index packet 0 ≡ 0x80 + first % 0x80 = ap (λ (xs : List ℕ). slice_index xs 0) is in
    omega (arith, at)
