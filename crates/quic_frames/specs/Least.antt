-- The least of the encodings of frames.
use Rattle.std.specs.Prelude.{◌≡◌, ◌⊎◌, ℕ, ◌<◌, List, [], ◌∷◌, ◌++◌, length, Bool, true, false}
use Rattle.quic_frame_fields.specs.Payload.{Meaning, TypedFrame}
use Rattle.quic_frame_fields.specs.Shortest.{written_type, shortest_frame}

-- The bytes are these, or more.
abbrev pub AreOrExceed : List ℕ → List ℕ → Type 0
AreOrExceed bytes least = (bytes ≡ least) ⊎ (length least < length bytes)

abbrev pub is_end : {T : Type 0} → List T → Bool
is_end [] = true
is_end (frame ∷ frames) = false

-- frames one after the other, of which only the last is written as the last
abbrev pub shortest_frames : List Meaning → List ℕ
shortest_frames [] = []
shortest_frames (frame ∷ frames) = shortest_frame (is_end frames) frame ++ shortest_frames frames

-- a frame without the type that it has in a payload
abbrev pub frame_in : TypedFrame → Meaning
frame_in found = found.frame

-- a frame with the type with which it is written
abbrev pub as_written : Bool → Meaning → TypedFrame
as_written last frame = record { type = written_type last frame.name frame.values; frame = frame }

-- the same of frames one after the other
abbrev pub all_written : List Meaning → List TypedFrame
all_written [] = []
all_written (frame ∷ frames) = as_written (is_end frames) frame ∷ all_written frames
