-- Payloads that mean the same: equal frames in the same order. ACKs are compared by their delays, their ECN counts and
-- the numbers in them.
use Rattle.std.specs.Prelude.{◌≡◌, ◌≢◌, ℕ, List, [], drop, map, Bool, true, false, if◌then◌else◌}
use Rattle.std.specs.List.{AllZip}
use Rattle.quic_frame_fields.specs.Field.{Value, Ranges}
use Rattle.quic_frame_fields.specs.Table.{Name, Ack}
use Rattle.quic_frame_fields.specs.Payload.{Meaning, TypedFrame, AreFrames}
use Rattle.quic_frame_fields.specs.Sets.{is_in}
use Rattle.quic_frames.specs.Least.{frame_in}

-- Ranges are the same if the same numbers are in them, other values if they are equal.
abbrev pub IsSameValue : Value → Value → Type 0
IsSameValue (Ranges some) (Ranges others) = (n : ℕ) → is_in some n ≡ is_in others n
IsSameValue value other = value ≡ other

abbrev pub is_ack : Name → Bool
is_ack Ack = true
is_ack name = false

-- The values by which frames are compared: for an ACK all except its greatest number, which its ranges determine.
abbrev pub compared_values : Meaning → List Value
compared_values frame = if is_ack frame.name then drop 1 frame.values else frame.values

pub record IsSameFrame (frame other : Meaning) : Type 0 where
  pub name : frame.name ≡ other.name
  pub values : AllZip IsSameValue (compared_values frame) (compared_values other)

-- Both are payloads, and mean the same.
pub record IsSame (payload other : List ℕ) : Type 0 where
  pub some : payload ≢ []
  pub frames : List TypedFrame
  pub encoded : AreFrames false frames payload
  pub others : List TypedFrame
  pub other_encoded : AreFrames false others other
  pub same : AllZip IsSameFrame (map frame_in frames) (map frame_in others)
