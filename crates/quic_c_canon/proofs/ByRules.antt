-- What is returned of a payload that rules accept.
use Rattle.std.proofs.Common.{◌≡◌, ◌≢◌, ℕ, List, [], false, None, Some, refl, sym, ap, ◌∙◌, inl, inr, subst}
use Rattle.std.specs.Prelude.{◌⊎◌, ℤ, Option, pos}
use Rattle.quic_base.specs.One.{ExactlyOne}
use Rattle.quic_frame_fields.specs.Payload.{TypedFrame, Complete, FailsAfter, IsReadingAfter}
use Rattle.quic_frame_fields.specs.Reading.{Invalid}
use Rattle.quic_frame_fields.specs.declared.frame.fault.Fault.{Fault}
use Rattle.quic_frames.specs.Rules.{Checked, IsCheckedOf}
use Rattle.quic_frames.specs.declared.frame.rules.Rules.{Rules}
use Rattle.quic_canon.specs.Refusal.{IsAccepted}
use Rattle.quic_canon.proofs.ByRules.{Relaxes, is_kept, without_error}
use Rattle.quic_c_canon.specs.Answers.{GivesLeastLen, IsReportedOf, LeastNeedsMore, ReportsInvalidPayload}
use Rattle.quic_c_canon.specs.declared.words.CCanon.{CCanon}
use Rattle.quic_results.specs.Results.{failed}
use Rattle.quic_results.specs.declared.results.Failure.TheVariants as failure

pub accepted : (rules : Rules) (payload : List ℕ) (checked : Checked) → payload ≢ [] → IsCheckedOf rules payload checked
    → None ≡ checked.error → IsAccepted rules payload
accepted rules payload checked some is none =
    let same : checked ≡ without_error checked.frames =
    ap (λ (e : Option Invalid). record { frames = checked.frames; error = e }) (sym none) in
    record { some = some; frames = checked.frames; reads = subst (IsCheckedOf rules payload) same is }

two_readings : (found others : List TypedFrame) (type : Option ℕ) (reason : Fault)
    → Complete found ≡ FailsAfter others type reason → ⊥
two_readings found others type reason e = cc

not_reported : (rules : Rules) (payload : List ℕ) (reported : Invalid) → ExactlyOne (IsReadingAfter false None payload)
    → Relaxes → IsAccepted rules payload → IsReportedOf payload reported → ⊥
not_reported rules payload reported one relaxes is r =
    let ours = is_kept rules is.frames payload is.reads in
    let here = one.only (Complete is.frames) (relaxes rules.short_types is.frames payload ours.encoded) in
    let there = one.only (FailsAfter r.found r.type r.reason) r.broken in
    two_readings is.frames r.found r.type r.reason (here ∙ sym there)

abbrev pub Answered : List ℕ → List ℕ → List ℕ → CCanon → CCanon → ℤ → Type 0
Answered payload before after old new result =
    (result ≡ pos 0) × GivesLeastLen payload before after old new
    ⊎ (after ≡ before) × ((result ≡ failed failure.NoRoom) × LeastNeedsMore payload before old new
    ⊎ (result ≡ failed failure.PayloadEmpty) × (payload ≡ []) × (new ≡ old)
    ⊎ ReportsInvalidPayload payload old result new)

pub of_accepted : (rules : Rules) (payload before after : List ℕ) (old new : CCanon) (result : ℤ)
    → ExactlyOne (IsReadingAfter false None payload) → Relaxes → IsAccepted rules payload
    → Answered payload before after old new result
    → IsAccepted rules payload × ((result ≡ pos 0) × GivesLeastLen payload before after old new
    ⊎ (after ≡ before) × (result ≡ failed failure.NoRoom) × LeastNeedsMore payload before old new)
of_accepted rules payload before after old new result one relaxes is (inl gives) = (is, inl gives)
of_accepted rules payload before after old new result one relaxes is (inr (same, inl more)) =
    (is, inr (same, more.0, more.1))
of_accepted rules payload before after old new result one relaxes is (inr (same, inr (inl empty))) =
    absurd (is.some empty.1)
of_accepted rules payload before after old new result one relaxes is (inr (same, inr (inr reports))) =
    absurd (not_reported rules payload reports.reported one relaxes is reports.of_it)
