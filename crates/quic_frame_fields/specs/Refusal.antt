-- Bytes that aren't the blocks of an ACK.
use Rattle.std.specs.Prelude.{ℕ, List}
use Rattle.quic_frame_fields.specs.declared.frame.fault.Fault.{Fault}
use Rattle.quic_frame_fields.specs.Field.{AreBlocks, RangesStop}

-- The bytes aren't the blocks of an ACK with this greatest number; reading their pairs stops for this reason.
pub record AreNoBlocks (greatest : ℕ) (bytes : List ℕ) (reason : Fault) : Type 0 where
  pub none : (ranges : List (ℕ × ℕ)) → AreBlocks greatest ranges bytes → ⊥
  pub pairs : ℕ
  pub stop : RangesStop pairs greatest bytes reason
