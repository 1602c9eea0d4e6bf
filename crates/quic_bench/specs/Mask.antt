-- A header key that XORs one byte of the packet with its first byte and its number.
use Rattle.std.specs.Prelude.{ℕ, ◌+◌, ◌%◌, List, slice_index, slice_set, bit_xor}
use Rattle.std.proofs.Common.{zero, suc}
use Rattle.quic_crypto.specs.Keys.{first_unit, is_short, number_len}

-- the bytes, of which so many from an offset on are XORed with s
abbrev pub mask_at : ℕ → ℕ → ℕ → List ℕ → List ℕ
mask_at at zero s bytes = bytes
mask_at at (suc count) s bytes = mask_at (at + 1) count s (slice_set bytes at (bit_xor (slice_index bytes at) s))

-- the bytes, of which the first is XORed with the low bits of s
abbrev pub first_masked : ℕ → List ℕ → List ℕ
first_masked s bytes = slice_set bytes 0 (bit_xor (slice_index bytes 0) (s % first_unit (is_short bytes)))

-- the packet whose number and first byte are combined with the sample, which is four bytes after the number's offset
abbrev pub mask_protect : ℕ → List ℕ → List ℕ
mask_protect at packet =
    let s = slice_index packet (at + 4) in first_masked s (mask_at at (number_len (slice_index packet 0)) s packet)

-- the same, beginning with the first byte, which has the number's length
abbrev pub mask_unprotect : ℕ → List ℕ → List ℕ
mask_unprotect at packet =
    let s = slice_index packet (at + 4) in
    let open_first = first_masked s packet in mask_at at (number_len (slice_index open_first 0)) s open_first
