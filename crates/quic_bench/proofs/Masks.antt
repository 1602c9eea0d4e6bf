-- Bytes masked one after another.
use Rattle.std.proofs.Common.{◌≡◌, ℕ, ◌+◌, ◌-◌, ◌<◌, List, suc, get_or, set, sym, ap, arith}
use Rattle.std.specs.Prelude.{bit_xor}
use Rattle.quic_bench.specs.Mask.{mask_at}

-- one more byte is masked
pub mask_more : (at end s : ℕ) (bytes : List ℕ) → at < end
    → mask_at (at + 1) (end - (at + 1)) s (set bytes at (bit_xor (get_or bytes at 0) s)) ≡ mask_at at (end - at) s bytes
mask_more at end s bytes below =
    let count : end - at ≡ suc (end - (at + 1)) = omega arith in
    ap (λ (n : ℕ). mask_at at n s bytes) (sym count)
