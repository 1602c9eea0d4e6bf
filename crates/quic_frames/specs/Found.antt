-- The frame at the front, as the reading functions return it.
use Rattle.std.specs.Prelude.{◌≡◌, ⊤, ℕ, List, Result, Ok, Err, IfOk}
use Rattle.quic_frames.specs.declared.frame.Frame.{Frame}
use Rattle.quic_frames.specs.declared.frame.Frame.TheVariants as frames
use Rattle.quic_frames.specs.declared.frame.found.FirstFrame.{FirstFrame}
use Rattle.quic_errors.specs.declared.invalid_frame.InvalidFrame.{InvalidFrame}
use Rattle.quic_frame_fields.specs.declared.frame.fault.Fault.{Fault}
use Rattle.quic_frame_fields.specs.AckPlace.{ReadsBlocks}
use Rattle.quic_frame_fields.specs.Acks.{parts_of}
use Rattle.quic_frame_fields.specs.Payload.{Meaning, TypedFrame}
use Rattle.quic_frame_fields.specs.Reading.{Invalid, Gives, varint_at}
use Rattle.quic_frames.specs.Meaning.{meaning_of}
use Rattle.quic_frames.specs.InRange.{HasNoTypeZero}
use Rattle.quic_frames.specs.Walk.{invalid_of}

abbrev pub found_as : ℕ → Frame → TypedFrame
found_as ty frame = record { type = ty; frame = meaning_of frame }

-- The blocks of an ACK are those that are read in the bytes of its fields, of which these are left.
abbrev pub HasItsBlocks : Frame → List ℕ → List ℕ → Type 0
HasItsBlocks (frames.Ack a) bytes left = ReadsBlocks (parts_of a) bytes left
HasItsBlocks frame bytes left = ⊤

-- The reader of a frame's fields returned what reading these bytes returns, no frame type of a close is 0, and an ACK
-- has the bytes of its blocks.
abbrev pub GivesFrame : {R : Type 0} → (R → List ℕ) → List ℕ → Result (Frame × R) Fault
    → Result (Meaning × List ℕ) Fault → Type 0
GivesFrame left bytes result read =
    Gives (λ x. (meaning_of x.0, left x.1)) result read × IfOk result (λ x. HasNoTypeZero x.0)
    × IfOk result (λ x. HasItsBlocks x.0 bytes (left x.1))

-- The same of a frame whose bytes begin with its type.
abbrev pub HasItsBlocksBehind : ℕ → Frame → List ℕ → List ℕ → Type 0
HasItsBlocksBehind type (frames.Ack a) bytes left = (behind : List ℕ) × (varint_at bytes ≡ Ok (type, behind))
    × ReadsBlocks (parts_of a) behind left
HasItsBlocksBehind type frame bytes left = ⊤

-- The same of the frame at the front.
abbrev pub GivesFound : List ℕ → Result FirstFrame InvalidFrame → Result (TypedFrame × List ℕ) Invalid → Type 0
GivesFound bytes (Ok x) read = (read ≡ Ok (found_as x.ty x.frame, x.rest.now)) × HasNoTypeZero x.frame
    × HasItsBlocksBehind x.ty x.frame bytes x.rest.now
GivesFound bytes (Err i) read = read ≡ Err (invalid_of i)
