-- What is reported if there is no canonical payload.
use Rattle.std.specs.Prelude.{◌≡◌, ◌≢◌, ℕ, List, [], ◌++◌, ◌⊎◌, Option, None, Some, false}
use Rattle.quic_frame_fields.specs.declared.frame.fault.Fault.{Fault}
use Rattle.quic_frame_fields.specs.Payload.{TypedFrame, AreFrames, IsBroken}
use Rattle.quic_frame_fields.specs.Reading.{invalid}
use Rattle.quic_frames.specs.Rules.{Checked, IsCheckedOf}
use Rattle.quic_frames.specs.Walk.{invalid_of}
use Rattle.quic_frames.specs.declared.frame.rules.Rules.{Rules}
use Rattle.quic_canon.specs.declared.canonical.CanonError.{CanonError}
use Rattle.quic_canon.specs.declared.canonical.CanonError.TheVariants.{Empty, Invalid, OutOfMemory}
use Rattle.quic_canon.specs.Least.{IsLeast, HasMeaning}

-- There is no canonical payload: the payload is empty, or has this invalid frame, or is valid but an allocation failed.
abbrev pub IsRefused : List ℕ → CanonError → Type 0
IsRefused payload Empty = payload ≡ []
IsRefused payload (Invalid i) =
    (found : List TypedFrame) × (type : Option ℕ) × (reason : Fault) × IsBroken false None found payload type reason
    × (invalid_of i ≡ invalid type reason)
IsRefused payload OutOfMemory = (payload ≢ []) × (found : List TypedFrame) × AreFrames false found payload

-- The payload is rejected because it is empty or invalid, not because an allocation failed.
abbrev pub IsWrong : List ℕ → CanonError → Type 0
IsWrong payload e = IsRefused payload e × (e ≢ OutOfMemory)

-- The first of two payloads is rejected, or the second if the first isn't.
abbrev pub IsEitherRefused : List ℕ → List ℕ → CanonError → Type 0
IsEitherRefused payload other e = IsRefused payload e ⊎ (HasMeaning payload × IsRefused other e)

-- The least payload of its meaning was appended.
pub record AppendsLeast (old new payload : List ℕ) : Type 0 where
  pub least : List ℕ
  pub is_least : IsLeast least payload
  pub appended : new ≡ old ++ least

-- The payload has frames, and no error under the rules.
pub record IsAccepted (rules : Rules) (payload : List ℕ) : Type 0 where
  pub some : payload ≢ []
  pub frames : List TypedFrame
  pub reads : IsCheckedOf rules payload (record { frames = frames; error = None })

-- The same as `IsRefused`, of a payload that is read by rules.
abbrev pub IsRefusedBy : Rules → List ℕ → CanonError → Type 0
IsRefusedBy rules payload Empty = payload ≡ []
IsRefusedBy rules payload (Invalid i) =
    (payload ≢ []) × (checked : Checked) × IsCheckedOf rules payload checked × (checked.error ≡ Some (invalid_of i))
IsRefusedBy rules payload OutOfMemory = IsAccepted rules payload
