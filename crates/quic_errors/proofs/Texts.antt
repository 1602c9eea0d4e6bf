-- The text of an error without a reason.
use Rattle.std.proofs.Common.{◌≡◌, ℕ, Bool, true, false, cond, List, [], ◌++◌, Some, codes, refl, sym, ap, ◌∙◌, append-nil, eqb, length}
use Rattle.quic_errors.specs.declared.transport_error.Error.{Error}
use Rattle.quic_errors.specs.Names.{name_of, in_type}
use Rattle.quic_errors.specs.Codes.{code_text, reason_bytes, after_colon, error_text}

chosen : (b : Bool) (text : List ℕ) → true ≡ b → cond b [] text ≡ []
chosen true text e = refl
chosen false text e = absurd cc

pub text_without_reason : (e : Error) (frame : ℕ) → e.frame ≡ Some frame → true ≡ eqb (length (reason_bytes e.reason)) 0 → code_text e.code ++ (codes " in " ++ name_of frame) ≡ error_text e
text_without_reason e frame known none =
    let nothing : after_colon (reason_bytes e.reason) ≡ [] = chosen (eqb (length (reason_bytes e.reason)) 0) (codes ": " ++ reason_bytes e.reason) none in
    let place : in_type e.frame ≡ codes " in " ++ name_of frame = ap in_type known in
    sym (append-nil (code_text e.code ++ (codes " in " ++ name_of frame))) ∙ ap (λ (t : List ℕ). (code_text e.code ++ t) ++ []) (sym place) ∙ ap (λ (t : List ℕ). (code_text e.code ++ in_type e.frame) ++ t) (sym nothing)
