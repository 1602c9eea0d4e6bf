-- What a call returned of a payload's reading (RFC 9000, section 12.4).
use Rattle.std.specs.Prelude.{◌≡◌, ⊤, ℕ, Bool, List, map, MatchOption, Option, Some, None}
use Rattle.quic_errors.specs.declared.invalid_frame.InvalidFrame.{InvalidFrame}
use Rattle.quic_frame_fields.specs.Payload.{Reading, TypedFrame, Complete, FailsAfter}
use Rattle.quic_frame_fields.specs.Reading.{invalid}
use Rattle.quic_frame_fields.specs.declared.frame.fault.Fault.TheVariants.{UnexpectedEnd}
use Rattle.quic_frames.specs.declared.frame.Frame.{Frame}
use Rattle.quic_frames.specs.Least.{frame_in}
use Rattle.quic_frames.specs.Meaning.{meaning_of}
use Rattle.quic_frames.specs.Rules.{Checked}
use Rattle.quic_frames.specs.Walk.{invalid_of, reported_of}
use Rattle.quic_wire.specs.Rfc.{IsRfcError, IsRfcPayload}

-- These frames were returned, and this error after them, or none.
abbrev pub IsReturnedAs : List Frame → Option InvalidFrame → Reading → Type 0
IsReturnedAs frames None (Complete found) = map meaning_of frames ≡ map frame_in found
IsReturnedAs frames (Some e) (FailsAfter found type reason) =
    (map meaning_of frames ≡ map frame_in found) × (invalid_of e ≡ invalid type reason)
IsReturnedAs frames error reading = ⊥

-- More bytes may make it a payload without an error: it has none, or ends too early.
abbrev pub MayGoOn : Reading → Type 0
MayGoOn (Complete found) = ⊤
MayGoOn (FailsAfter found type reason) = reason ≡ UnexpectedEnd

-- the same under rules
pub record IsReturnedUnder (frames : List Frame) (error : Option InvalidFrame) (checked : Checked) : Type 0 where
  pub frames_are : map meaning_of frames ≡ map frame_in checked.frames
  pub error_is : reported_of error ≡ checked.error

-- These frames were returned, which RFC 9000 allows, and they are the payload, or this error comes after them.
pub record IsReadByRfc (negotiated : Bool) (payload : List ℕ) (frames : List Frame) (error : Option InvalidFrame) : Type 0
  where
    pub found : List TypedFrame
    pub frames_are : map meaning_of frames ≡ map frame_in found
    pub is : MatchOption error (IsRfcPayload negotiated found payload)
        (λ e. IsRfcError negotiated found payload (invalid_of e))
