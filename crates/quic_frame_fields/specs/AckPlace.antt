-- Where the blocks of an ACK are in the bytes of its frame (RFC 9000, section 19.3).
use Rattle.std.specs.Prelude.{◌≡◌, ◌≤◌, ◌⊎◌, ℕ, ◌-◌, List, [], ◌∷◌, ◌++◌, length, Ok}
use Rattle.quic_frame_fields.specs.declared.frame.ack.Ack.{Ack}
use Rattle.quic_frame_fields.specs.Acks.{AckParts, parts_of, ranges_acked}
use Rattle.quic_frame_fields.specs.Field.{AreBlocks}
use Rattle.quic_frame_fields.specs.Numbers.{AreEncoded}
use Rattle.quic_frame_fields.specs.Reading.{varint_at, blocks_at}

-- The blocks of an ACK are in the bytes of its frame: after the type, the greatest number, the delay, and how many
-- ranges are below the first.
pub record BlocksStand (type : ℕ) (ack : Ack) (bytes : List ℕ) : Type 0 where
  pub header : List ℕ
  pub back : List ℕ
  pub parts : bytes ≡ header ++ ((parts_of ack).additional ++ back)
  pub numbers : AreEncoded (type ∷ (parts_of ack).largest ∷ (parts_of ack).delay ∷ (length (ranges_acked ack) - 1)
      ∷ []) header

-- The bytes begin with an ACK, without its ECN counts if it has these: the type, the greatest number, the delay, how
-- many ranges are below the first, and the blocks.
pub record BeginsWithAck (bytes : List ℕ) (largest : ℕ) (blocks rest : List ℕ) : Type 0 where
  pub type : ℕ
  pub is_ack : (type ≡ 2) ⊎ (type ≡ 3)
  pub delay : ℕ
  pub ranges : List (ℕ × ℕ)
  pub header : List ℕ
  pub parts : bytes ≡ header ++ (blocks ++ rest)
  pub numbers : AreEncoded (type ∷ largest ∷ delay ∷ (length ranges - 1) ∷ []) header
  pub encoded : AreBlocks largest ranges blocks

-- These are the greatest number, the delay and the blocks that the bytes after a type begin with; no more bytes remain
-- than follow the blocks.
pub record ReadsBlocks (a : AckParts) (bytes left : List ℕ) : Type 0 where
  pub behind_largest : List ℕ
  pub behind_delay : List ℕ
  pub behind_blocks : List ℕ
  pub largest : varint_at bytes ≡ Ok (a.largest, behind_largest)
  pub delay : varint_at behind_largest ≡ Ok (a.delay, behind_delay)
  pub blocks : blocks_at a.largest behind_delay ≡ Ok (a.additional, behind_blocks)
  pub fewer : length left ≤ length behind_blocks
