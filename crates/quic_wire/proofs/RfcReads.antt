-- What is read by RFC 9000's rules.
use Rattle.std.proofs.Common.{◌≡◌, ◌≢◌, ℕ, List, [], map, Bool, None, Some, Option, refl, sym, ap, subst, ◌∙◌}
use Rattle.quic_base.specs.One.{ReturnsOne}
use Rattle.quic_errors.specs.declared.invalid_frame.InvalidFrame.{InvalidFrame}
use Rattle.quic_frame_fields.specs.Payload.{Meaning, TypedFrame}
use Rattle.quic_frame_fields.specs.Reading.{Invalid}
use Rattle.quic_frames.specs.Least.{frame_in}
use Rattle.quic_frames.specs.Meaning.{meaning_of}
use Rattle.quic_frames.specs.Rules.{Checked, IsCheckedOf}
use Rattle.quic_frames.specs.Walk.{invalid_of, reported_of}
use Rattle.quic_frames.specs.declared.frame.Frame.{Frame}
use Rattle.quic_wire.specs.Reading.{IsReadByRfc, IsReturnedUnder}
use Rattle.quic_wire.specs.Rfc.{IsRfcPayload, rfc_rules, without_error}
use Rattle.quic_wire.proofs.Allowed.{is_allowed_payload, reads_allowed}
use Rattle.quic_wire.proofs.FirstFaults.{first_fault}

as_read : (checked : Checked) (error : Option Invalid) → error ≡ checked.error
    → checked ≡ record { frames = checked.frames; error = error }
as_read checked error e = ap (λ (x : Option Invalid). record { frames = checked.frames; error = x }) (sym e)

pub read_by_rfc : (negotiated : Bool) (payload : List ℕ) (frames : List Frame) (error : Option InvalidFrame)
    → payload ≢ [] → ReturnsOne (IsCheckedOf (rfc_rules negotiated) payload) (IsReturnedUnder frames error)
    → IsReadByRfc negotiated payload frames error
read_by_rfc negotiated payload frames None some r =
    let it = r.one.it in
    let reads = subst (IsCheckedOf (rfc_rules negotiated) payload) (as_read it None r.returned.error_is) r.one.is in
    record {
      found = it.frames;
      frames_are = r.returned.frames_are;
      is = is_allowed_payload negotiated it.frames payload some reads;
    }
read_by_rfc negotiated payload frames (Some e) some r =
    let it = r.one.it in
    let reads =
    subst (IsCheckedOf (rfc_rules negotiated) payload) (as_read it (Some (invalid_of e)) r.returned.error_is) r.one.is in
    record {
      found = it.frames;
      frames_are = r.returned.frames_are;
      is = first_fault negotiated it.frames payload (invalid_of e) reads;
    }

no_error : (error : Option InvalidFrame) → reported_of error ≡ None → error ≡ None
no_error None e = refl
no_error (Some i) e = absurd cc

-- what is read of allowed frames that were written
pub read_again : (negotiated : Bool) (payload : List ℕ) (given : List Meaning) (frames : List Frame)
    (error : Option InvalidFrame)
    → ((found : List TypedFrame) × IsRfcPayload negotiated found payload × (map frame_in found ≡ given))
    → ReturnsOne (IsCheckedOf (rfc_rules negotiated) payload) (IsReturnedUnder frames error)
    → (error ≡ None) × (map meaning_of frames ≡ given)
read_again negotiated payload given frames error again r =
    let same = r.one.only (without_error again.0) (reads_allowed negotiated again.0 payload again.1) in
    let frames_same : r.one.it.frames ≡ again.0 = ap (λ (c : Checked). c.frames) (sym same) in
    let none : r.one.it.error ≡ None = ap (λ (c : Checked). c.error) (sym same) in (
      no_error error (r.returned.error_is ∙ none),
      r.returned.frames_are ∙ ap (map frame_in) frames_same ∙ again.2,
    )
