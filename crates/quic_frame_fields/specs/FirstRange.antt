-- The first range of an ACK's blocks, and those that are left (RFC 9000, section 19.3.1).
use Rattle.std.specs.Prelude.{◌≡◌, ◌≢◌, ℕ, ◌+◌, ◌-◌, ◌≤◌, List, [], ◌∷◌, ◌++◌, nat_lt, ◌⊎◌}
use Rattle.quic_base.specs.Varint.{Encodes}
use Rattle.quic_frame_fields.specs.declared.frame.fault.Fault.{Fault}
use Rattle.quic_frame_fields.specs.Field.{AreBlocks, NumberStops}

-- The bytes encode the ranges that are left, the first of which ends with the greatest number; or none is left.
abbrev pub AreLeft : ℕ → List (ℕ × ℕ) → List ℕ → Type 0
AreLeft greatest [] bytes = bytes ≡ []
AreLeft greatest (range ∷ ranges) bytes = AreBlocks greatest (range ∷ ranges) bytes

-- The bytes begin with the block of the range from least to greatest. Then they end, and next is 0; or the gap above a
-- range that ends with next follows, and the rest.
pub record BeginsWithRange (greatest : ℕ) (bytes : List ℕ) (least next : ℕ) (rest : List ℕ) : Type 0 where
  pub block : List ℕ
  pub gap : List ℕ
  pub parts : bytes ≡ block ++ (gap ++ rest)
  pub ordered : least ≤ greatest
  pub first : Encodes (greatest - least) block
  pub below : ((gap ++ rest ≡ []) × (next ≡ 0)) ⊎ ((next + 2 ≤ least) × Encodes (least - (next + 2)) gap)

-- If the bytes are the blocks of an ACK, their first range is from least to greatest, and the rest encodes the others.
abbrev pub SplitsRanges : ℕ → List ℕ → ℕ → ℕ → List ℕ → Type 0
SplitsRanges greatest bytes least next rest =
    (ranges : List (ℕ × ℕ)) → AreBlocks greatest ranges bytes
    → (others : List (ℕ × ℕ)) × (ranges ≡ (least, greatest) ∷ others) × AreLeft next others rest

-- why the bytes don't begin with a range: its block can't be read, or more follows that and isn't a gap
abbrev pub RangeStops : ℕ → List ℕ → Fault → Type 0
RangeStops greatest bytes reason = NumberStops bytes reason (λ block. nat_lt greatest block)
    (λ block rest. (rest ≢ [])
    × NumberStops rest reason (λ gap. nat_lt (greatest - block) (gap + 2)) (λ gap others. ⊥))
