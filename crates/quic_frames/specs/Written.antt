-- What is written for frames.
use Rattle.std.specs.Prelude.{◌≡◌, ℕ, List, map, false}
use Rattle.quic_frame_fields.specs.Payload.{Meaning, TypedFrame, AreFrames}
use Rattle.quic_frames.specs.Least.{AreOrExceed, frame_in}
use Rattle.quic_frames.specs.Meaning.{meaning_of}
use Rattle.quic_frames.specs.declared.frame.Frame.{Frame}

-- The payload has these frames, and any other payload that has them is longer.
pub record IsShortestOf (frames : List Meaning) (payload : List ℕ) : Type 0 where
  pub found : List TypedFrame
  pub encoded : AreFrames false found payload
  pub means : map frame_in found ≡ frames
  pub least : (others : List TypedFrame) (bytes : List ℕ) → AreFrames false others bytes
      → map frame_in others ≡ frames → AreOrExceed bytes payload

-- the same for the frames of the code
abbrev pub IsPayload : List Frame → List ℕ → Type 0
IsPayload frames payload = IsShortestOf (map meaning_of frames) payload
