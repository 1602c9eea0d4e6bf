-- A payload of one ACK that was written, as it is read.
use Rattle.std.proofs.Common.{◌≡◌, ◌≢◌, ℕ, zero, suc, ◌^◌, ◌<◌, false, List, [], ◌∷◌, ◌++◌, length, map, Option, None, Some, Result, Ok, Err, refl, sym, ap, subst, ◌∙◌, arith}
use Rattle.std.specs.Prelude.{OnOk}
use Rattle.std.proofs.lemmas.List.{append-nil, length-append}
use Rattle.quic_frames.specs.declared.frame.Frame.{Frame}
use Rattle.quic_frames.specs.declared.frame.Frame.TheVariants as frames
use Rattle.quic_frame_fields.specs.declared.frame.close.Close.TheVariants as closes
use Rattle.quic_frame_fields.specs.declared.frame.ack.Ack.{Ack}
use Rattle.quic_frame_fields.specs.Table as names
use Rattle.quic_errors.specs.declared.invalid_frame.InvalidFrame.{InvalidFrame}
use Rattle.quic_frame_fields.specs.Payload.{TypedFrame, IsFrame, AreFrames}
use Rattle.quic_frame_fields.specs.Reading.{Whole, Invalid}
use Rattle.quic_frames.specs.Meaning.{meaning_of}
use Rattle.quic_frames.specs.IterState.{IterState}
use Rattle.quic_frames.specs.Walk.{left, first_of, unplaced, given, Advances}
use Rattle.quic_frames.proofs.Turns.{frames_first, finds_left, fails_left, spent_left}

two_power : (t : ℕ) → t < 4 → 0 < 2 ^ t
two_power zero lt = omega arith
two_power (suc zero) lt = omega arith
two_power (suc (suc zero)) lt = omega arith
two_power (suc (suc (suc zero))) lt = omega arith
two_power (suc (suc (suc (suc t)))) lt = absurd (omega (arith, lt))

pub not_empty : (found : TypedFrame) (bytes : List ℕ) → IsFrame false found bytes → bytes ≢ []
not_empty found bytes f none =
    let s = f.type_encoded.encoded in
    absurd (omega (arith, ap length (sym f.parts ∙ none), length-append f.type_bytes f.field_bytes, s.width, two_power s.tag s.tag_fits))

-- What an encoder wrote into an empty buffer is its content.
pub content_is : {T E : Type 0} (result : Result T E) (x : T) (old new content bytes : List ℕ) → content ≡ new
    → OnOk result (new ≡ old ++ bytes)
    → result ≡ Ok x → old ≡ [] → content ≡ bytes
content_is (Ok y) x old new content bytes is wrote e empty = is ∙ wrote ∙ ap (λ (l : List ℕ). l ++ bytes) empty
content_is (Err f) x old new content bytes is wrote e empty = absurd (err_is_not_ok e)
  where
    err_is_not_ok : {T E : Type 0} {f : E} {x : T} → Err f ≡ Ok x → ⊥
    err_is_not_ok e = cc

-- An iterator over a payload of one frame has that frame left.
pub one_left : (found : TypedFrame) (bytes payload : List ℕ) (it : IterState) → IsFrame false found bytes
    → payload ≡ bytes
    → it ≡ first_of false payload
    → map unplaced (left it) ≡ map given (found ∷ [])
one_left found bytes payload it f is first =
    let one : AreFrames false (found ∷ []) bytes = (bytes, [], sym (append-nil bytes), f, λ opens. refl, refl) in
    frames_first false payload it (found ∷ []) first (subst (AreFrames false (found ∷ [])) (sym is) one)

-- The first item that it returns is that frame.
pub gives_it : (found : TypedFrame) (it new : IterState) (item : Option (Result Frame InvalidFrame))
    → map unplaced (left it) ≡ map given (found ∷ [])
    → Advances it item new
    → (frame : Frame) × (item ≡ Some (Ok frame)) × (meaning_of frame ≡ found.frame)
gives_it found it new None one a = absurd (omega (arith, ap length (ap (map unplaced) (sym (spent_left it a.0)) ∙ one)))
gives_it found it new (Some (Err e)) one a = cc (ap (map unplaced) (sym (fails_left it new e a)) ∙ one)
gives_it found it new (Some (Ok frame)) one a =
    let here : map unplaced (Whole it.offset new.offset a.found ∷ left new) ≡ map given (found ∷ []) =
    ap (map unplaced) (sym (finds_left it new frame a)) ∙ one in
    (frame, refl, sym a.says ∙ ap (λ (f : TypedFrame). f.frame) (same here))
  where
    same : {f g : TypedFrame} {rs : List (Result TypedFrame Invalid)} → given f ∷ rs ≡ given g ∷ [] → f ≡ g
    same e = cc

-- a frame with the name of an ACK is one
pub ack_only : (frame : Frame) → (meaning_of frame).name ≡ names.Ack → ((a : Ack) → frame ≡ frames.Ack a → ⊥) → ⊥
ack_only (frames.Ack a) e other = other a refl
ack_only (frames.Close (closes.Connection c)) e other = cc
ack_only (frames.Close (closes.Application c)) e other = cc
ack_only frame e other = cc
