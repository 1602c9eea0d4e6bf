-- What is written for frames.
use Rattle.std.specs.Prelude.{◌≡◌, ◌≢◌, ℕ, List, [], ◌∷◌, length, map, Bool}
use Rattle.std.proofs.Common.{inl, inr, sym, ap, arith, length-append}
use Rattle.quic_frame_fields.specs.Payload.{Meaning, TypedFrame, AreFrames}
use Rattle.quic_frames.specs.Least.{AreOrExceed, frame_in}
use Rattle.quic_frames.proofs.Items.{frame_some}

-- neither of two byte lists is shorter than the other
pub as_short : (some others : List ℕ) → AreOrExceed some others → AreOrExceed others some → others ≡ some
as_short some others (inl same) back = sym same
as_short some others (inr longer) (inl same) = same
as_short some others (inr longer) (inr shorter) = absurd (omega arith)

found_some : (strict : Bool) (found : List TypedFrame) (frames : List Meaning) (bytes : List ℕ)
    → AreFrames strict found bytes → map frame_in found ≡ frames → length bytes ≡ 0 → frames ≡ []
found_some strict [] frames bytes are same none = sym same
found_some strict (found ∷ others) frames bytes are same none =
    absurd (omega (arith, none, frame_some strict found are.0 are.3, ap length are.2, length-append are.0 are.1))

-- frames have at least one byte
pub payload_some : (strict : Bool) (found : List TypedFrame) (frames : List Meaning) (bytes : List ℕ)
    → AreFrames strict found bytes → map frame_in found ≡ frames → frames ≢ [] → bytes ≢ []
payload_some strict found frames bytes are same some none =
    some (found_some strict found frames bytes are same (ap length none))
