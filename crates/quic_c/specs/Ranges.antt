-- The ranges of an ACK, read from its head on (RFC 9000, section 19.3).
use Rattle.std.specs.Prelude.{◌≡◌, ℕ, ◌+◌, ◌-◌, ◌<◌, ◌≤◌, ◌^◌, ◌⊎◌, slice_range, length, drop, nat_lt, List, [], ◌∷◌, ◌++◌}
use Rattle.quic_base.specs.Varint.{Encodes}
use Rattle.quic_frame_fields.specs.declared.frame.fault.Fault.{Fault}
use Rattle.quic_frame_fields.specs.declared.frame.fault.Fault.TheVariants.{UnexpectedEnd}
use Rattle.quic_frame_fields.specs.AckPlace.{BeginsWithAck}
use Rattle.quic_frame_fields.specs.Field.{NumberStops}
use Rattle.quic_frame_fields.specs.FirstRange.{AreLeft}
use Rattle.quic_frame_fields.specs.Numbers.{AreEncoded}
use Rattle.quic_c_words.specs.declared.words.CFrame.{CFrame}
use Rattle.quic_c_words.specs.declared.words.CRange.{CRange}
use Rattle.quic_c_words.specs.declared.words.CRangeIter.{CRangeIter}

-- the bytes of a frame
abbrev pub frame_of_words : CFrame → List ℕ → List ℕ
frame_of_words frame payload = slice_range payload frame.begin frame.end

-- The bytes begin as an ACK: the type, the greatest number, the delay, and how many ranges are below the first. The
-- rest may be no blocks.
pub record BeginsWithHead (bytes : List ℕ) (largest count : ℕ) (rest : List ℕ) : Type 0 where
  pub type : ℕ
  pub is_ack : (type ≡ 2) ⊎ (type ≡ 3)
  pub delay : ℕ
  pub header : List ℕ
  pub parts : bytes ≡ header ++ rest
  pub numbers : AreEncoded (type ∷ largest ∷ delay ∷ count ∷ []) header

-- These ranges are left, each by its least and its greatest number, and their blocks begin at the iterator's offset.
pub record HasLeft (it : CRangeIter) (payload : List ℕ) (ranges : List (ℕ × ℕ)) : Type 0 where
  pub count : it.left ≡ length ranges
  pub within : it.offset ≤ length payload
  pub small : it.largest < 2 ^ 62
  pub blocks : List ℕ
  pub behind : List ℕ
  pub parts : drop it.offset payload ≡ blocks ++ behind
  pub encoded : AreLeft it.largest ranges blocks

-- The frame begins as an ACK; its greatest number, the count of its ranges and where their blocks begin were given. If
-- it is an ACK, all of its ranges are left.
pub record GivesHead (frame : CFrame) (payload : List ℕ) (new : CRangeIter) : Type 0 where
  pub ordered : frame.begin ≤ frame.end
  pub ends : frame.end ≤ length payload
  pub begins : frame.begin ≤ new.offset
  pub within : new.offset ≤ frame.end
  pub small : new.largest < 2 ^ 62
  pub count : ℕ
  pub left : new.left ≡ count + 1
  pub head : BeginsWithHead (frame_of_words frame payload) new.largest count (slice_range payload new.offset frame.end)
  pub ack : (greatest : ℕ) (blocks rest : List ℕ)
      → (ack : BeginsWithAck (frame_of_words frame payload) greatest blocks rest) → HasLeft new payload ack.ranges

-- The place of the frame is outside of the payload, or no ACK begins there.
abbrev pub LacksHead : CFrame → List ℕ → Type 0
LacksHead frame payload =
    (frame.end < frame.begin) ⊎ (length payload < frame.end)
    ⊎ ((largest count : ℕ) (rest : List ℕ) → BeginsWithHead (frame_of_words frame payload) largest count rest → ⊥)

-- The bytes begin with the block of the range from least to greatest. If there are more ranges, the gap above the next
-- one follows, which ends with next, and the rest, which isn't empty.
pub record TakesRange (greatest more : ℕ) (bytes : List ℕ) (least next : ℕ) (rest : List ℕ) : Type 0 where
  pub block : List ℕ
  pub gap : List ℕ
  pub parts : bytes ≡ block ++ (gap ++ rest)
  pub ordered : least ≤ greatest
  pub first : Encodes (greatest - least) block
  pub last : more ≡ 0 → (gap ≡ []) × (next ≡ 0)
  pub below : 0 < more → (next + 2 ≤ least) × Encodes (least - (next + 2)) gap × (0 < length rest)

-- why the bytes don't begin so: the block can't be read; or there are more ranges, and the gap can't be read, or
-- nothing follows it
abbrev pub CutRange : ℕ → ℕ → List ℕ → Fault → Type 0
CutRange greatest more bytes reason = NumberStops bytes reason (λ block. nat_lt greatest block)
    (λ block rest. (0 < more)
    × NumberStops rest reason (λ gap. nat_lt (greatest - block) (gap + 2))
    (λ gap others. (others ≡ []) × (reason ≡ UnexpectedEnd)))

-- The first range was given, and one fewer is left. If ranges were left, it is the first of these, and the others are
-- left.
pub record GivesRange (old : CRangeIter) (payload : List ℕ) (new : CRangeIter) (out : CRange) : Type 0 where
  pub counted : new.left + 1 ≡ old.left
  pub small : old.largest < 2 ^ 62
  pub above : out.end ≡ old.largest + 1
  pub begins : TakesRange old.largest new.left (drop old.offset payload) out.start new.largest (drop new.offset payload)
  pub further : old.offset < new.offset
  pub within : new.offset ≤ length payload
  pub ranges : (ranges : List (ℕ × ℕ)) → HasLeft old payload ranges
      → (others : List (ℕ × ℕ)) × (ranges ≡ (out.start, old.largest) ∷ others) × HasLeft new payload others

-- More ranges are to come, but the offset is outside of the payload, the greatest number is too large, or the bytes
-- don't begin with a range; so no ranges of an ACK are left.
pub record LacksRange (it : CRangeIter) (payload : List ℕ) : Type 0 where
  pub some : 0 < it.left
  pub why : (length payload < it.offset) ⊎ (2 ^ 62 ≤ it.largest)
      ⊎ ((reason : Fault) × CutRange it.largest (it.left - 1) (drop it.offset payload) reason)
  pub none : (ranges : List (ℕ × ℕ)) → HasLeft it payload ranges → ⊥
