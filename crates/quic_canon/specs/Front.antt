-- The frames at the front of a payload that are in their shortest encodings already.
use Rattle.std.specs.Prelude.{◌≡◌, ◌≢◌, ℕ, ◌-◌, ◌<◌, ◌≤◌, List, [], ◌++◌, length, map, take, drop, false}
use Rattle.quic_frame_fields.specs.Payload.{TypedFrame, AreFrames}
use Rattle.quic_frames.specs.Least.{frame_in, shortest_frames}

-- The first n bytes are also the first of the shortest payload of these frames, and the others are of these.
pub record IsCut (payload : List ℕ) (n : ℕ) (found others : List TypedFrame) : Type 0 where
  pub back : AreFrames false others (drop n payload)
  pub parts : shortest_frames (map frame_in found) ≡ take n payload ++ shortest_frames (map frame_in others)
  pub within : n ≤ length payload

-- The bytes are a payload, whose first frame that isn't in its shortest encoding, if there is one, begins after n
-- bytes.
pub record IsFront (payload : List ℕ) (n : ℕ) : Type 0 where
  pub some : payload ≢ []
  pub found : List TypedFrame
  pub encoded : AreFrames false found payload
  pub others : List TypedFrame
  pub cut : IsCut payload n found others
  pub shorter : n < length payload → length (shortest_frames (map frame_in others)) < length payload - n
