-- The law of a key that adds no tag. Its proof is here because an implementation proves its trait's laws from
-- definitions only.
use Rattle.std.specs.Prelude.{◌≡◌, ℕ, ◌+◌, List, length}
use Rattle.std.proofs.Common.{arith}

pub plain_sealed_len : (payload : List ℕ) → length payload ≡ length payload + 0
plain_sealed_len payload = omega arith
