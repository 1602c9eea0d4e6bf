-- Payloads without an error under rules, and the least of those that mean the same.
use Rattle.std.proofs.Common.{◌≡◌, ℕ, List, [], ◌∷◌, map, Bool, true, false, None, Some, refl, sym, ap, subst, ◌∙◌, inl, inr}
use Rattle.std.specs.Prelude.{◌≢◌, All, IfErr, Option, Result, Ok, Err}
use Rattle.quic_base.specs.One.{ExactlyOne}
use Rattle.std.specs.List.{AllZip}
use Rattle.std.proofs.lemmas.List.Elements.{All-nil, All-cons, All-head, All-tail}
use Rattle.quic_frame_fields.specs.declared.frame.fault.Fault.{Fault}
use Rattle.quic_frame_fields.specs.Payload.{TypedFrame, AreFrames, Meaning, Reading, Complete, FailsAfter, IsReadingAfter}
use Rattle.quic_frame_fields.specs.Reading.{Invalid, invalid}
use Rattle.quic_frames.specs.Least.{frame_in}
use Rattle.quic_frames.specs.Rules.{Checked, IsCheckedOf, IsCheckedReading, Keeps, breach_of, fault_by, invalid_by, reported_by}
use Rattle.quic_frames.specs.declared.frame.rules.Rules.{Rules}
use Rattle.quic_canon.specs.Least.{IsLeast}
use Rattle.quic_canon.specs.Refusal.{IsAccepted, IsRefused, IsRefusedBy}
use Rattle.quic_canon.specs.declared.canonical.CanonError.{CanonError}
use Rattle.quic_canon.specs.declared.canonical.CanonError.TheVariants.{Empty, Invalid as InvalidIn, OutOfMemory}
use Rattle.quic_canon.specs.Same.{IsSameFrame}

abbrev pub without_error : List TypedFrame → Checked
without_error frames = record { frames = frames; error = None }

-- The payload is these frames, none of which breaks a rule.
pub record IsKept (rules : Rules) (frames : List TypedFrame) (payload : List ℕ) : Type 0 where
  pub encoded : AreFrames rules.short_types frames payload
  pub kept : All (Keeps rules) frames

no_error : (i : Invalid) → None ≡ Some i → ⊥
no_error i e = cc

of_reading : (rules : Rules) (frames : List TypedFrame) (payload : List ℕ) (reading : Reading)
    → IsReadingAfter rules.short_types None payload reading → IsCheckedReading rules reading (without_error frames)
    → IsKept rules frames payload
of_reading rules frames payload (Complete found) reads (inl whole) =
    let same : frames ≡ found = ap (λ (c : Checked). c.frames) whole.1 in
    record {
      encoded = subst (λ (l : List TypedFrame). AreFrames rules.short_types l payload) (sym same) reads;
      kept = subst (λ (l : List TypedFrame). All (Keeps rules) l) (sym same) whole.0;
    }
of_reading rules frames payload (FailsAfter found type reason) reads (inl whole) =
    absurd (no_error (invalid type (fault_by rules type reason)) (ap (λ (c : Checked). c.error) whole.1))
of_reading rules frames payload reading reads (inr stops) =
    absurd (no_error (invalid_by stops.broken stops.breach) stops.reported)

pub is_kept : (rules : Rules) (frames : List TypedFrame) (payload : List ℕ)
    → IsCheckedOf rules payload (without_error frames) → IsKept rules frames payload
is_kept rules frames payload is = of_reading rules frames payload is.0 is.1 is.2

abbrev pub Relaxes : Type 0
Relaxes = (strict : Bool) (found : List TypedFrame) (bytes : List ℕ) → AreFrames strict found bytes
    → AreFrames false found bytes

-- ---- the least payload

all_keep : (rules : Rules) (some others : List TypedFrame) → map frame_in others ≡ map frame_in some
    → All (Keeps rules) some → All (Keeps rules) others
all_keep rules some [] same all = All-nil (Keeps rules)
all_keep rules [] (other ∷ others) same all = absurd cc
all_keep rules (one ∷ some) (other ∷ others) same all =
    let head : other.frame ≡ one.frame = cc in
    let tail : map frame_in others ≡ map frame_in some = cc in
    All-cons (Keeps rules) other others (ap (breach_of rules) head ∙ All-head (Keeps rules) one some all)
    (all_keep rules some others tail (All-tail (Keeps rules) one some all))

either : (strict : Bool) (found : List TypedFrame) (bytes : List ℕ) → AreFrames true found bytes
    → AreFrames false found bytes → AreFrames strict found bytes
either true found bytes as_strict as_relaxed = as_strict
either false found bytes as_strict as_relaxed = as_relaxed

pub least_kept : (rules : Rules) (frames : List TypedFrame) (payload least : List ℕ)
    → ((some others : List TypedFrame) (bytes : List ℕ) → AreFrames false some bytes → AreFrames false others bytes
    → some ≡ others)
    → Relaxes
    → ((found others : List TypedFrame) (bytes other : List ℕ) → AreFrames false found bytes
    → AreFrames false others other → AllZip IsSameFrame (map frame_in found) (map frame_in others)
    → map frame_in found ≡ map frame_in others)
    → ((found : List TypedFrame) × AreFrames true found least × AreFrames false found least)
    → IsCheckedOf rules payload (without_error frames) → IsLeast least payload
    → (found : List TypedFrame) × IsCheckedOf rules least (without_error found)
    × (map frame_in found ≡ map frame_in frames)
least_kept rules frames payload least one relaxes values read is l =
    let ours = is_kept rules frames payload is in
    let s = l.same in
    let here : read.0 ≡ s.frames = one read.0 s.frames least read.2 s.encoded in
    let there : s.others ≡ frames =
    one s.others frames payload s.other_encoded (relaxes rules.short_types frames payload ours.encoded) in
    let same : map frame_in read.0 ≡ map frame_in frames =
    ap (map frame_in) here ∙ values s.frames s.others least payload s.encoded s.other_encoded s.same
    ∙ ap (map frame_in) there in (
      read.0,
      (
        Complete read.0,
        either rules.short_types read.0 least read.1 read.2,
        inl (all_keep rules frames read.0 same ours.kept, refl),
      ),
      same,
    )

-- ---- why it isn't written

accepted : (rules : Rules) (payload : List ℕ) (checked : Checked) → payload ≢ [] → IsCheckedOf rules payload checked
    → checked.error ≡ None → IsAccepted rules payload
accepted rules payload checked some is none =
    let same : checked ≡ without_error checked.frames =
    ap (λ (e : Option Invalid). record { frames = checked.frames; error = e }) none in
    record { some = some; frames = checked.frames; reads = subst (IsCheckedOf rules payload) same is }

two_readings : (found others : List TypedFrame) (type : Option ℕ) (reason : Fault)
    → Complete found ≡ FailsAfter others type reason → ⊥
two_readings found others type reason e = cc

refused : (rules : Rules) (payload : List ℕ) → ExactlyOne (IsReadingAfter false None payload) → Relaxes
    → IsAccepted rules payload → (e : CanonError) → IsRefused payload e → IsRefusedBy rules payload e
refused rules payload one relaxes is Empty why = why
refused rules payload one relaxes is (InvalidIn i) why =
    let ours = is_kept rules is.frames payload is.reads in
    let here = one.only (Complete is.frames) (relaxes rules.short_types is.frames payload ours.encoded) in
    let there = one.only (FailsAfter why.0 why.1 why.2) why.3 in
    absurd (two_readings is.frames why.0 why.1 why.2 (here ∙ sym there))
refused rules payload one relaxes is OutOfMemory why = is

pub refused_by : {X : Type 0} (rules : Rules) (payload : List ℕ) (checked : Checked)
    → ExactlyOne (IsReadingAfter false None payload) → Relaxes → payload ≢ [] → IsCheckedOf rules payload checked
    → checked.error ≡ None → (result : Result X CanonError) → IfErr result (λ e. IsRefused payload e)
    → IfErr result (λ e. IsRefusedBy rules payload e)
refused_by rules payload checked one relaxes some is none (Ok x) why = why
refused_by rules payload checked one relaxes some is none (Err e) why =
    refused rules payload one relaxes (accepted rules payload checked some is none) e why
