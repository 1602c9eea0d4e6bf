-- A packet key that adds one byte to each byte of a payload, and counts bytes as its tag.
use Rattle.std.specs.Prelude.{ℕ, ◌+◌, ◌-◌, ◌%◌, List, [], ◌∷◌, ◌++◌, length, map, take, slice_index, nat_le, nat_eq, ◌&&◌, Option, Some, None, if◌then◌else◌}

-- the sum of two bytes, modulo 256
abbrev pub add_byte : ℕ → ℕ → ℕ
add_byte low x = (x + low) % 256

-- what undoes that
abbrev pub take_byte : ℕ → ℕ → ℕ
take_byte low x = (x + (256 - low)) % 256

-- each byte with the number's lowest one added, then how many bytes the header and the payload have, each modulo 256
abbrev pub add_sealed : ℕ → List ℕ → List ℕ → List ℕ
add_sealed number header payload = map (add_byte (number % 256)) payload ++ (length header % 256)
    ∷ (length payload % 256) ∷ []

-- the bytes before the last two, if these are the counts
abbrev pub add_opened : ℕ → List ℕ → List ℕ → Option (List ℕ)
add_opened number header sealed =
    let at = length sealed - 2 in
    if nat_le 2 (length sealed) && nat_eq (slice_index sealed at) (length header % 256)
    && nat_eq (slice_index sealed (at + 1)) (at % 256)
    then Some (map (take_byte (number % 256)) (take at sealed)) else None
