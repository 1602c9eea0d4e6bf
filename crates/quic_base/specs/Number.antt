-- Big-endian numbers.
use Rattle.std.specs.Prelude.{◌≡◌, ◌==◌, ℕ, ◌+◌, ◌*◌, ◌/◌, ◌%◌, ◌^◌, ◌<◌, Bool, List, [], ◌∷◌, length, slice_index}
use Rattle.std.specs.Int.{bytes_high_first}

-- every element is a byte
abbrev pub AreBytes : List ℕ → Type 0
AreBytes b = (i : ℕ) → slice_index b i < 256

-- whether a byte has a bit, which is a power of two
abbrev pub has_bit : ℕ → ℕ → Bool
has_bit bit byte = (byte / bit % 2) == 1

-- the number whose bytes these are, the highest first
abbrev pub num : List ℕ → ℕ
num [] = 0
num (x ∷ xs) = x * 256 ^ length xs + num xs

-- b is n in k bytes
pub record IsNumber (k n : ℕ) (b : List ℕ) : Type 0 where
  pub bytes : AreBytes b
  pub width : length b ≡ k
  pub value : num b ≡ n

-- the lowest k bytes of n, the highest of them first
unfoldable pub bytes_of : ℕ → ℕ → List ℕ
bytes_of k n = bytes_high_first k n

-- b is these k octets, each one byte
pub record IsOctets (k : ℕ) (octets b : List ℕ) : Type 0 where
  pub bytes : AreBytes b
  pub width : length b ≡ k
  pub value : b ≡ octets
