-- Whether an error is that of a type in a longer encoding.
use Rattle.std.proofs.Common.{◌≡◌, ◌≢◌, ℕ, List, Bool, true, false, refl, sym, ◌∙◌, ap}
use Rattle.std.specs.Prelude.{◌↔◌, IsTrue, MatchBool}
use Rattle.quic_errors.specs.Codes.{long_type_reason}
use Rattle.quic_frame_fields.specs.Reading.{reason_text}
use Rattle.quic_frame_fields.specs.declared.frame.fault.Fault.{Fault}
use Rattle.quic_frame_fields.specs.declared.frame.fault.Fault.TheVariants.{UnexpectedEnd, InvalidFrameId, Malformed, LongType}

abbrev Others : Type 0
Others = (reason : Fault) → reason ≢ LongType → reason_text reason ≢ long_type_reason

long_only : Others → (reason : Fault) → reason_text reason ≡ long_type_reason → reason ≡ LongType
long_only others UnexpectedEnd e = absurd (others UnexpectedEnd (λ h. cc) e)
long_only others InvalidFrameId e = absurd (others InvalidFrameId (λ h. cc) e)
long_only others Malformed e = absurd (others Malformed (λ h. cc) e)
long_only others LongType e = refl

pub is_long : (result : Bool) (text : List ℕ) → MatchBool result (text ≡ long_type_reason) (text ≢ long_type_reason)
    → reason_text LongType ≡ long_type_reason → Others
    → (reason : Fault) → text ≡ reason_text reason → IsTrue result ↔ (reason ≡ LongType)
is_long true text e long others reason is = ((λ _. long_only others reason (sym is ∙ e)), (λ _. refl))
is_long false text differs long others reason is = (
  (λ t. absurd (never t)),
  (λ e. absurd (differs (is ∙ ap reason_text e ∙ long))),
)
  where
    never : IsTrue false → ⊥
    never t = cc
