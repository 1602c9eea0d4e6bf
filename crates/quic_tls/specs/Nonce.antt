-- The nonce of a packet (RFC 9001, section 5.3).
use Rattle.std.specs.Prelude.{ℕ, List, [], ◌∷◌, bit_xor}
use Rattle.quic_base.specs.Number.{bytes_of}

-- two lists of bytes, joined byte by byte by exclusive or
abbrev pub joined : List ℕ → List ℕ → List ℕ
joined (x ∷ xs) (y ∷ ys) = bit_xor x y ∷ joined xs ys
joined xs ys = []

-- the packet number, with zeros on its left up to the twelve bytes of the iv, joined with the iv
abbrev pub nonce_of : List ℕ → ℕ → List ℕ
nonce_of iv number = joined iv (0 ∷ 0 ∷ 0 ∷ 0 ∷ bytes_of 8 number)
