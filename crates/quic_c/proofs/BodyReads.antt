-- The body of a frame, as C sees it.
use Rattle.std.proofs.Common.{◌≡◌, ℕ, ◌+◌, ◌-◌, ◌<◌, ◌≤◌, ◌^◌, Bool, List, ◌++◌, length, Option, None, Some, inl, inr, refl, sym, ap, ◌∙◌, arith}
use Rattle.std.specs.Prelude.{◌↔◌, ℤ, pos}
use Rattle.std.proofs.lemmas.List.{length-append}
use Rattle.quic_frame_fields.specs.Reading.{Invalid, invalid}
use Rattle.quic_frame_fields.specs.declared.frame.fault.Fault.{Fault}
use Rattle.quic_frames.specs.declared.frame.Frame.{Frame}
use Rattle.quic_frames.specs.declared.frame.rules.Rules.{Rules}
use Rattle.quic_frames.specs.declared.frame.rules.Breach.{Breach}
use Rattle.quic_frames.specs.Body.{ReadsBody, LacksBody, with_type}
use Rattle.quic_frames.specs.Checking.{IsRefusedFrame}
use Rattle.quic_frames.specs.IterState.{IterState}
use Rattle.quic_frames.specs.Meaning.{meaning_of}
use Rattle.quic_frames.specs.Rules.{Keeps, breach_of, breach_text, fault_by}
use Rattle.quic_frames.specs.Walk.{first_of}
use Rattle.quic_results.specs.declared.results.Failure.TheVariants as failure
use Rattle.quic_results.specs.Results.{failed, frame_failure}
use Rattle.quic_results.proofs.FrameFailures.{not_number}
use Rattle.quic_c.specs.Body.{AnswersBody, ShowsBody}
use Rattle.quic_c.specs.Front.{ReportsNone, ShowsFront}
use Rattle.quic_c_words.specs.Shown.{invalid_words, type_word}
use Rattle.quic_c_words.specs.declared.words.CFrame.{CFrame}
use Rattle.quic_c_words.specs.declared.words.CGap.{CGap}
use Rattle.quic_c.proofs.Types.{last_fits, keeps, is_refused, is_lacking}

-- the type of a body that was read fits in its word
pub type_fits : (strict : Bool) (t : ℕ) (body : List ℕ) (frame : Frame) (rest : List ℕ)
    → ReadsBody strict t body frame rest → t < 2 ^ 16
type_fits strict t body frame rest r =
    let f = r.finds in
    let small =
    last_fits (first_of strict (with_type t body)) r.next frame f f.found.type (ap (λ (w : IterState). w.last) f.comes) in
    omega (arith, small, r.same)

pub rest_within : (strict : Bool) (t : ℕ) (body : List ℕ) (frame : Frame) (rest : List ℕ)
    → ReadsBody strict t body frame rest → length rest ≤ length body
rest_within strict t body frame rest r = omega (arith, ap length r.parts, length-append r.fields rest)

pub body_keeps : (rules : Rules) (t : ℕ) (body : List ℕ) (frame : Frame) (rest : List ℕ) (test : Option Breach)
    (r : ReadsBody rules.short_types t body frame rest) → test ≡ breach_of rules (meaning_of frame) → test ≡ None
    → Keeps rules r.finds.found
body_keeps rules t body frame rest test r tests none =
    keeps rules (first_of rules.short_types (with_type t body)) r.next frame test r.finds tests none

pub body_refused : (rules : Rules) (t : ℕ) (body : List ℕ) (frame : Frame) (rest : List ℕ) (test : Option Breach)
    (reported : Invalid) → ReadsBody rules.short_types t body frame rest → test ≡ breach_of rules (meaning_of frame)
    → (b : Breach) × (test ≡ Some b)
    → ((b : Breach) → test ≡ Some b → reported ≡ record { type = Some t; reason = breach_text b })
    → IsRefusedFrame rules (first_of rules.short_types (with_type t body)) reported
body_refused rules t body frame rest test reported r tests some says =
    let f = r.finds in
    let last : Some t ≡ r.next.last =
    ap (λ (n : ℕ). Some n) (sym r.same) ∙ sym (ap (λ (w : IterState). w.last) f.comes) in
    is_refused rules (first_of rules.short_types (with_type t body)) r.next frame test (Some t) reported f tests some
    last says

pub body_lacking : (rules : Rules) (t : ℕ) (body : List ℕ) (plain reported : Invalid)
    → LacksBody rules.short_types t body plain
    → ((type : Option ℕ) (reason : Fault) → plain ≡ invalid type reason → reported ≡ invalid type (fault_by rules type reason))
    → IsRefusedFrame rules (first_of rules.short_types (with_type t body)) reported
body_lacking rules t body plain reported l says =
    is_lacking rules (first_of rules.short_types (with_type t body)) plain reported l says

-- ---- what is returned

differ : (n : ℕ) → pos n ≡ failed failure.Number → ⊥
differ n e = cc

pub gives_body : (rules : Rules) (t : ℕ) (body : List ℕ) (before : CFrame) (room : List CGap) (result : ℤ) (words : CFrame)
    (gaps : List CGap) (stop : ℕ) → t < 2 ^ 62 → result ≡ pos stop → ShowsBody rules t body room stop words gaps
    → AnswersBody rules t body before room result words gaps
gives_body rules t body before room result words gaps stop lt is shows = record {
  returns = inr (inr (stop, is, shows));
  number = (λ e. absurd (differ stop (sym is ∙ e)), λ le. absurd (omega (arith, le, lt)));
  same = λ e. absurd (differ stop (sym is ∙ e));
  kept = inl (stop, is);
}

pub reports_body : (rules : Rules) (t : ℕ) (body : List ℕ) (before : CFrame) (room : List CGap) (result : ℤ)
    (words : CFrame) (reported : Invalid) → t < 2 ^ 62
    → IsRefusedFrame rules (first_of rules.short_types (with_type t body)) reported
    → result ≡ failed (frame_failure reported.reason) → words ≡ invalid_words 0 (type_word reported.type)
    → AnswersBody rules t body before room result words room
reports_body rules t body before room result words reported lt first reason is = record {
  returns = inr (inl (record { reported = reported; first = first; reason = reason; is = is }));
  number = (λ e. absurd (not_number reported.reason (sym reason ∙ e)), λ le. absurd (omega (arith, le, lt)));
  same = λ e. absurd (not_number reported.reason (sym reason ∙ e));
  kept = inr refl;
}

pub refuses_number : (rules : Rules) (t : ℕ) (body : List ℕ) (before : CFrame) (room : List CGap) (result : ℤ) → 2 ^ 62 ≤ t
    → result ≡ failed failure.Number → AnswersBody rules t body before room result before room
refuses_number rules t body before room result le is =
    record { returns = inl is; number = (λ _. le, λ _. is); same = λ _. refl; kept = inr refl }
