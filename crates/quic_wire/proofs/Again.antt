-- What is written of frames is read as these.
use Rattle.std.proofs.Common.{◌≡◌, ◌≢◌, ℕ, List, [], ◌∷◌, map, refl, Bool, false, true, Option, None, Some, sym, ap, ◌∙◌, ◌++◌, subst, Result, Ok, Err}
use Rattle.quic_base.specs.declared.ids.Side.{Side}
use Rattle.std.specs.Prelude.{◌↔◌, IsErrOf}
use Rattle.quic_canon.specs.Least.{IsLeast}
use Rattle.quic_canon.proofs.LeastPayloads.{no_frame}
use Rattle.quic_errors.specs.declared.invalid_frame.InvalidFrame.{InvalidFrame}
use Rattle.quic_base.specs.One.{ReturnsOne}
use Rattle.quic_frame_fields.specs.Payload.{Meaning, TypedFrame, AreFrames, Reading, Complete, FailsAfter, IsReadingOf}
use Rattle.quic_frames.specs.declared.frame.Frame.{Frame}
use Rattle.quic_frames.specs.Least.{frame_in}
use Rattle.quic_frames.specs.Meaning.{meaning_of}
use Rattle.quic_frames.specs.Written.{IsShortestOf}
use Rattle.quic_params.specs.Meaning.{IsReadAnswer}
use Rattle.quic_params.specs.Options.{as_quinn}
use Rattle.quic_params.specs.Range.{plain}
use Rattle.quic_params.specs.Writing.{written}
use Rattle.quic_params.specs.declared.error.Error.{Error}
use Rattle.quic_params.specs.declared.record.TransportParameters.{TransportParameters}
use Rattle.quic_wire.specs.Reading.{IsReturnedAs}
use Rattle.quic_wire.specs.declared.calls.PayloadError.{PayloadError}
use Rattle.quic_wire.specs.declared.calls.PayloadError.TheVariants.{Empty, OutOfMemory}

pub read_again : (strict : Bool) (frames : List Meaning) (payload : List ℕ)
    → ((some others : List TypedFrame) (bytes : List ℕ) → AreFrames false some bytes → AreFrames false others bytes
    → some ≡ others)
    → ((bytes least : List ℕ) → IsLeast least bytes
    → (found : List TypedFrame) × AreFrames true found least × AreFrames false found least)
    → IsShortestOf frames payload → IsLeast payload payload
    → (found : List TypedFrame) × IsReadingOf strict payload (Complete found) × (map frame_in found ≡ frames)
read_again false frames payload one strictly is least = (is.found, is.encoded, is.means)
read_again true frames payload one strictly is least =
    let read = strictly payload payload least in
    (read.0, read.1, ap (map frame_in) (one read.0 is.found payload read.2 is.encoded) ∙ is.means)

pub some_meanings : (frames : List Frame) → frames ≢ [] → map meaning_of frames ≢ []
some_meanings [] some = absurd (some refl)
some_meanings (frame ∷ frames) some = λ none. cc

append_some : (front back : List ℕ) → front ≢ [] → front ++ back ≢ []
append_some [] back some = absurd (some refl)
append_some (byte ∷ front) back some = λ none. cc

frames_some : (found : List TypedFrame) (frames : List Meaning) (payload : List ℕ) → map frame_in found ≡ frames
    → frames ≢ [] → AreFrames false found payload → payload ≢ []
frames_some [] frames payload means some encoded = absurd (some (sym means))
frames_some (one ∷ others) frames payload means some encoded =
    let front = append_some encoded.0 encoded.1 (no_frame one encoded.0 encoded.3) in
    λ none. front (sym encoded.2 ∙ none)

pub payload_some : (frames : List Meaning) (payload : List ℕ) → frames ≢ [] → IsShortestOf frames payload → payload ≢ []
payload_some frames payload some is = frames_some is.found frames payload is.means some is.encoded

-- A payload that isn't empty isn't read only for want of memory.
pub only_memory : {T : Type 0} (payload : List ℕ) (e : PayloadError)
    → (IsErrOf {T = T} (Err e) Empty ↔ (payload ≡ [])) → payload ≢ [] → e ≡ OutOfMemory
only_memory payload Empty same some = absurd (some (same.0 refl))
only_memory payload OutOfMemory same some = refl

-- ---- and so are they returned

abbrev ReadAs : List Frame → List ℕ → Type 0
ReadAs frames payload = (found : List TypedFrame) × IsReadingOf false payload (Complete found)
    × (map frame_in found ≡ map meaning_of frames)

is_whole : (found : List TypedFrame) (frames others : List Frame) (error : Option InvalidFrame) (reading : Reading)
    → map frame_in found ≡ map meaning_of frames → Complete found ≡ reading → IsReturnedAs others error reading
    → (error ≡ None) × (map meaning_of others ≡ map meaning_of frames)
is_whole found frames others None (Complete read) means e given =
    let same : found ≡ read = cc in (cc, given ∙ ap (map frame_in) (sym same) ∙ means)
is_whole found frames others (Some i) (Complete read) means e given = absurd given
is_whole found frames others None (FailsAfter read type reason) means e given = absurd cc
is_whole found frames others (Some i) (FailsAfter read type reason) means e given = absurd cc

pub given_again : (frames others : List Frame) (error : Option InvalidFrame) (payload : List ℕ) → ReadAs frames payload
    → ReturnsOne (IsReadingOf false payload) (IsReturnedAs others error)
    → (error ≡ None) × (map meaning_of others ≡ map meaning_of frames)
given_again frames others error payload read gives =
    is_whole read.0 frames others error gives.one.it read.2 (gives.one.only (Complete read.0) read.1) gives.returned

-- ---- parameters

pub list_again : (side : Side) (params : TransportParameters) (list : List ℕ) (result : Result TransportParameters Error)
    → list ≡ written params → IsReadAnswer as_quinn side (written params) (Ok (plain params))
    → ReturnsOne (IsReadAnswer as_quinn side list) (λ answer. result ≡ answer) → result ≡ Ok (plain params)
list_again side params list result are is gives =
    let answer : IsReadAnswer as_quinn side list (Ok (plain params)) =
    subst (λ (bytes : List ℕ). IsReadAnswer as_quinn side bytes (Ok (plain params))) (sym are) is in
    gives.returned ∙ sym (gives.one.only (Ok (plain params)) answer)
