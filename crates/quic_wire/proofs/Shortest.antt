-- What has a shortest payload is a payload without an error.
use Rattle.std.proofs.Common.{◌≡◌, ◌≢◌, ℕ, List, [], ◌∷◌, ◌++◌, map, false, length, sym, ap, ◌∙◌, arith}
use Rattle.std.proofs.lemmas.List.{length-append}
use Rattle.std.specs.Prelude.{OnOk, Result, Ok, Err}
use Rattle.quic_canon.specs.Least.{IsLeast}
use Rattle.quic_canon.specs.Refusal.{AppendsLeast}
use Rattle.std.specs.List.{AllZip}
use Rattle.quic_canon.specs.Same.{IsSameFrame}
use Rattle.quic_frame_fields.specs.Payload.{TypedFrame, AreFrames, IsReadingOf, Complete}
use Rattle.quic_frames.proofs.Items.{frame_some}
use Rattle.quic_frames.specs.Least.{frame_in}
use Rattle.quic_base.specs.One.{ExactlyOne, ReturnsOne}

some_of : (frames others : List TypedFrame) (least payload : List ℕ) → least ≢ [] → AreFrames false frames least
    → AreFrames false others payload → AllZip IsSameFrame (map frame_in frames) (map frame_in others) → payload ≢ []
some_of [] others least payload some encoded other same none = some encoded
some_of (f ∷ frames) [] least payload some encoded other same none = same
some_of (f ∷ frames) (g ∷ others) least payload some encoded other same none =
    let first = frame_some false g other.0 other.3 in
    absurd (omega (arith, first, ap length (sym none ∙ other.2), length-append other.0 other.1))

pub means_frames : (least payload : List ℕ) → IsLeast least payload
    → (payload ≢ []) × ((frames : List TypedFrame) × IsReadingOf false payload (Complete frames))
means_frames least payload is =
    let same = is.same in (
      some_of same.frames same.others least payload same.some same.encoded same.other_encoded same.same,
      (same.others, same.other_encoded),
    )

pub appends_shortest : {X E : Type 0} (result : Result X E) (old new payload : List ℕ)
    → ((frames : List TypedFrame) (bytes : List ℕ) → bytes ≢ []
    → IsReadingOf false bytes (Complete frames) → ExactlyOne (λ least. IsLeast least bytes))
    → ((least bytes : List ℕ) → IsLeast least bytes
    → (bytes ≢ []) × ((frames : List TypedFrame) × IsReadingOf false bytes (Complete frames)))
    → OnOk result (AppendsLeast old new payload)
    → OnOk result (ReturnsOne (λ least. IsLeast least payload) (λ least. new ≡ old ++ least))
appends_shortest (Ok x) old new payload one none a =
    let means = none a.least payload a.is_least in
    let it = one means.1.0 payload means.0 means.1.1 in
    record {
      one = it;
      returned = a.appended ∙ ap (λ (l : List ℕ). old ++ l) (it.only a.least a.is_least);
    }
appends_shortest (Err e) old new payload one none a = a
