-- What is returned for an invalid frame is returned for nothing else.
use Rattle.std.proofs.Common.{◌≡◌, ℕ, List, Bool, true, false}
use Rattle.std.specs.Prelude.{ℤ, pos, if◌then◌else◌}
use Rattle.quic_results.specs.declared.results.Failure.{Failure}
use Rattle.quic_results.specs.declared.results.Failure.TheVariants as failure
use Rattle.quic_results.specs.Results.{failed, frame_failure}

abbrev chosen : Bool → Bool → Bool → Bool → Failure
chosen one two three four = if one then failure.FrameEnd else if two then failure.FrameType
    else if three then failure.FrameLongType else if four then failure.FrameLimit else failure.FrameMalformed

-- what doesn't hold for any of the five numbers doesn't hold for the chosen one
five : (P : ℤ → Type 0) (one two three four : Bool) → (P (failed failure.FrameEnd) → ⊥) → (P (failed failure.FrameType) → ⊥)
    → (P (failed failure.FrameLongType) → ⊥) → (P (failed failure.FrameLimit) → ⊥)
    → (P (failed failure.FrameMalformed) → ⊥) → P (failed (chosen one two three four)) → ⊥
five P true two three four a b c d e p = a p
five P false true three four a b c d e p = b p
five P false false true four a b c d e p = c p
five P false false false true a b c d e p = d p
five P false false false false a b c d e p = e p

pub not_count : (reason : List ℕ) (n : ℕ) → failed (frame_failure reason) ≡ pos n → ⊥
not_count reason n = five (λ (z : ℤ). z ≡ pos n) _ _ _ _ (λ e. cc) (λ e. cc) (λ e. cc) (λ e. cc)
    (λ e. cc)

pub not_place : (reason : List ℕ) → failed (frame_failure reason) ≡ failed failure.Place → ⊥
not_place reason = five (λ (z : ℤ). z ≡ failed failure.Place) _ _ _ _ (λ e. cc) (λ e. cc) (λ e. cc) (λ e. cc)
    (λ e. cc)

pub not_room : (reason : List ℕ) → failed (frame_failure reason) ≡ failed failure.NoRoom → ⊥
not_room reason = five (λ (z : ℤ). z ≡ failed failure.NoRoom) _ _ _ _ (λ e. cc) (λ e. cc) (λ e. cc) (λ e. cc)
    (λ e. cc)

pub not_empty : (reason : List ℕ) → failed (frame_failure reason) ≡ failed failure.PayloadEmpty → ⊥
not_empty reason = five (λ (z : ℤ). z ≡ failed failure.PayloadEmpty) _ _ _ _ (λ e. cc) (λ e. cc) (λ e. cc) (λ e. cc)
    (λ e. cc)

pub not_number : (reason : List ℕ) → failed (frame_failure reason) ≡ failed failure.Number → ⊥
not_number reason = five (λ (z : ℤ). z ≡ failed failure.Number) _ _ _ _ (λ e. cc) (λ e. cc) (λ e. cc) (λ e. cc)
    (λ e. cc)
