-- Numbers as varints, one after the other.
use Rattle.std.specs.Prelude.{◌≡◌, ⊤, ℕ, ◌<◌, ◌^◌, List, [], ◌∷◌, ◌++◌}
use Rattle.quic_base.specs.Varint.{Encodes, shortest_varint}

-- numbers in their shortest encodings
abbrev pub shortest_varints : List ℕ → List ℕ
shortest_varints [] = []
shortest_varints (n ∷ ns) = shortest_varint n ++ shortest_varints ns

-- numbers that have an encoding
abbrev pub AreNumeric : List ℕ → Type 0
AreNumeric [] = ⊤
AreNumeric (n ∷ ns) = (n < 2 ^ 62) × AreNumeric ns

-- The bytes encode these numbers, one after the other, in any widths.
abbrev pub AreEncoded : List ℕ → List ℕ → Type 0
AreEncoded [] bytes = bytes ≡ []
AreEncoded (n ∷ ns) bytes = (front back : List ℕ) × (bytes ≡ front ++ back) × Encodes n front × AreEncoded ns back
