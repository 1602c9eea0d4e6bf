-- A mask that protects a header is applied, or removed (RFC 9001, section 5.4.1).
use Rattle.std.specs.Prelude.{ℕ, zero, suc, ◌+◌, ◌%◌, ◌<◌, ◌≤◌, List, slice_index, slice_set, bit_xor, nat_lt}
use Rattle.quic_crypto.specs.Keys.{first_unit, number_len}

-- the first byte with its mask removed: from five bits in a short header, from four in a long one
abbrev pub unmasked_first : List ℕ → ℕ → ℕ
unmasked_first mask first = bit_xor first (slice_index mask 0 % first_unit (nat_lt first 128))

-- that many bytes of a mask, after its first one, removed from the bytes at an offset
abbrev pub unmasked_at : ℕ → List ℕ → ℕ → List ℕ → List ℕ
unmasked_at at mask zero bytes = bytes
unmasked_at at mask (suc n) bytes =
    slice_set (unmasked_at at mask n bytes) (at + n)
    (bit_xor (slice_index (unmasked_at at mask n bytes) (at + n)) (slice_index mask (n + 1)))

-- a mask removed from a header whose number begins at an offset; the number's size is in the unmasked first byte
abbrev pub unmasked : ℕ → List ℕ → List ℕ → List ℕ
unmasked at mask bytes =
    let first = unmasked_first mask (slice_index bytes 0) in
    unmasked_at at mask (number_len first) (slice_set bytes 0 first)

-- a number of up to four bytes can begin at an offset after the first byte
pub record HasNumber (place size : ℕ) : Type 0 where
  pub behind : 0 < place
  pub room : place + 4 ≤ size

-- A mask is applied to a header whose number begins at an offset; the number's size is in the first byte before that. A
-- byte is joined to its mask by exclusive or, so applying and removing a mask are the same.
abbrev pub masked_packet : ℕ → List ℕ → List ℕ → List ℕ
masked_packet at mask bytes =
    let first = slice_index bytes 0 in
    unmasked_at at mask (number_len first) (slice_set bytes 0 (unmasked_first mask first))
