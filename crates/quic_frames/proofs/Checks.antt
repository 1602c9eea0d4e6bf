-- A payload has one reading under rules.
use Rattle.std.proofs.Common.{◌≡◌, ℕ, ◌+◌, ◌≤◌, List, [], ◌∷◌, ◌++◌, length, Bool, Option, Some, None, refl, sym, ap, subst, ◌∙◌, inl, inr, arith}
use Rattle.std.specs.Prelude.{◌⊎◌, All}
use Rattle.std.proofs.lemmas.List.{length-append}
use Rattle.std.proofs.lemmas.List.Elements.{All-nil, All-cons, All-head, All-tail}
use Rattle.quic_base.specs.Number.{AreBytes}
use Rattle.quic_base.specs.One.{ExactlyOne}
use Rattle.quic_frame_fields.specs.Field.{Value, Number, Bytes}
use Rattle.quic_frame_fields.specs.Table.{Name, Crypto, NewToken, Stream, MaxStreams, StreamsBlocked}
use Rattle.quic_frame_fields.specs.Payload.{TypedFrame, Reading, Complete, FailsAfter, IsReadingAfter, item_count}
use Rattle.quic_frame_fields.specs.Reading.{Invalid}
use Rattle.quic_frame_fields.specs.declared.frame.fault.Fault.TheVariants.{InvalidFrameId, LongType, Malformed, UnexpectedEnd}
use Rattle.quic_frames.specs.declared.frame.rules.Rules.{Rules}
use Rattle.quic_frames.specs.declared.frame.rules.Breach.{Breach}
use Rattle.quic_frames.specs.Rules.{Checked, Keeps, StopsAtBreach, IsCheckedReading, IsCheckedAfter, breach_by, breach_of, invalid_by, reported_by, unchecked, checked_count, only_types}
use Rattle.quic_frames.proofs.Readings.{one_reading, few_items}

-- ---- the first frame that breaks a rule

record FirstBreach (rules : Rules) (frames : List TypedFrame) : Type 0 where
  before : List TypedFrame
  broken : TypedFrame
  others : List TypedFrame
  breach : Breach
  parts : frames ≡ before ++ broken ∷ others
  kept : All (Keeps rules) before
  breaks : breach_of rules broken.frame ≡ Some breach

none_or_some : (o : Option Breach) → (o ≡ None) ⊎ ((breach : Breach) × (o ≡ Some breach))
none_or_some None = inl refl
none_or_some (Some breach) = inr (breach, refl)

first_breach : (rules : Rules) (frames : List TypedFrame) → All (Keeps rules) frames ⊎ FirstBreach rules frames
first_breach rules [] = inl (All-nil (Keeps rules))
first_breach rules (found ∷ frames) =
    elim (none_or_some (breach_of rules found.frame)) [
      | inr broken ↦ inr (record {
        before = [];
        broken = found;
        others = frames;
        breach = broken.0;
        parts = refl;
        kept = All-nil (Keeps rules);
        breaks = broken.1;
      })
      | inl keeps ↦ elim (first_breach rules frames) [
        | inl all ↦ inl (All-cons (Keeps rules) found frames keeps all)
        | inr f ↦ inr (record {
          before = found ∷ f.before;
          broken = f.broken;
          others = f.others;
          breach = f.breach;
          parts = ap (λ (l : List TypedFrame). found ∷ l) f.parts;
          kept = All-cons (Keeps rules) found f.before keeps f.kept;
          breaks = f.breaks;
        })
      ]
    ]

keeps_and_breaks : (o : Option Breach) (breach : Breach) → o ≡ None → o ≡ Some breach → ⊥
keeps_and_breaks o breach none some = cc

-- a frame that breaks a rule isn't among those that break none
not_among : (rules : Rules) (before : List TypedFrame) (broken : TypedFrame) (others : List TypedFrame) (breach : Breach)
    → All (Keeps rules) (before ++ broken ∷ others) → breach_of rules broken.frame ≡ Some breach → ⊥
not_among rules [] broken others breach all breaks =
    keeps_and_breaks (breach_of rules broken.frame) breach (All-head (Keeps rules) broken others all) breaks
not_among rules (found ∷ before) broken others breach all breaks =
    not_among rules before broken others breach
    (All-tail (Keeps rules) found (before ++ broken ∷ others) all) breaks

record SameStart (before : List TypedFrame) (broken : TypedFrame) (before' : List TypedFrame)
    (broken' : TypedFrame) : Type 0 where
  fronts : before ≡ before'
  brokens : broken ≡ broken'

same_start : (rules : Rules) (before : List TypedFrame) (broken : TypedFrame) (others : List TypedFrame) (breach : Breach)
    (before' : List TypedFrame) (broken' : TypedFrame) (others' : List TypedFrame) (breach' : Breach)
    → before ++ broken ∷ others ≡ before' ++ broken' ∷ others' → All (Keeps rules) before → All (Keeps rules) before'
    → breach_of rules broken.frame ≡ Some breach → breach_of rules broken'.frame ≡ Some breach'
    → SameStart before broken before' broken'
same_start rules [] broken others breach [] broken' others' breach' e kept kept' breaks breaks' =
    record { fronts = refl; brokens = cc }
same_start rules [] broken others breach (found ∷ before') broken' others' breach' e kept kept' breaks breaks' =
    let same : found ≡ broken = cc in
    absurd (keeps_and_breaks (breach_of rules broken.frame) breach
    (subst (Keeps rules) same (All-head (Keeps rules) found before' kept')) breaks)
same_start rules (found ∷ before) broken others breach [] broken' others' breach' e kept kept' breaks breaks' =
    let same : found ≡ broken' = cc in
    absurd (keeps_and_breaks (breach_of rules broken'.frame) breach'
    (subst (Keeps rules) same (All-head (Keeps rules) found before kept)) breaks')
same_start rules (found ∷ before) broken others breach (found' ∷ before') broken' others' breach' e kept kept' breaks breaks' =
    let heads : found ≡ found' = cc in
    let tails : before ++ broken ∷ others ≡ before' ++ broken' ∷ others' = cc in
    let rest =
    same_start rules before broken others breach before' broken' others' breach' tails
    (All-tail (Keeps rules) found before kept) (All-tail (Keeps rules) found' before' kept') breaks breaks' in
    record { fronts = cc (heads, rest.fronts); brokens = rest.brokens }

-- ---- one reading under rules

same_checked : (a b : Checked) → a.frames ≡ b.frames → a.error ≡ b.error → a ≡ b
same_checked a b frames error =
    let with_frames : List TypedFrame → Checked = λ l. record { frames = l; error = a.error } in
    let with_error : Option Invalid → Checked = λ e. record { frames = b.frames; error = e } in
    ap with_frames frames ∙ ap with_error error

same_breach : (o : Option Breach) (a b : Breach) → o ≡ Some a → o ≡ Some b → a ≡ b
same_breach o a b e f = cc

stops_once : (rules : Rules) (frames : List TypedFrame) (a b : Checked) → StopsAtBreach rules frames a
    → StopsAtBreach rules frames b → a ≡ b
stops_once rules frames a b s t =
    let same =
    same_start rules a.frames s.broken s.others s.breach b.frames t.broken t.others t.breach (sym s.parts ∙ t.parts)
    s.kept t.kept s.breaks t.breaks in
    let breaks : breach_of rules s.broken.frame ≡ Some t.breach =
    ap (λ (f : TypedFrame). breach_of rules f.frame) same.brokens ∙ t.breaks in
    let breach = same_breach (breach_of rules s.broken.frame) s.breach t.breach s.breaks breaks in
    let error : a.error ≡ b.error =
    s.reported ∙ ap (λ (f : TypedFrame). Some (invalid_by f s.breach)) same.brokens
    ∙ ap (λ (x : Breach). Some (invalid_by t.broken x)) breach ∙ sym t.reported in
    same_checked a b same.fronts error

checked_once : (rules : Rules) (reading : Reading) (a b : Checked) → IsCheckedReading rules reading a
    → IsCheckedReading rules reading b → a ≡ b
checked_once rules reading a b (inl s) (inl t) = s.1 ∙ sym t.1
checked_once rules reading a b (inl s) (inr t) =
    absurd (not_among rules b.frames t.broken t.others t.breach (subst (All (Keeps rules)) t.parts s.0) t.breaks)
checked_once rules reading a b (inr s) (inl t) =
    absurd (not_among rules a.frames s.broken s.others s.breach (subst (All (Keeps rules)) s.parts t.0) s.breaks)
checked_once rules reading a b (inr s) (inr t) = stops_once rules (reported_by rules reading).frames a b s t

has_checked : (rules : Rules) (reading : Reading) → (checked : Checked) × IsCheckedReading rules reading checked
has_checked rules reading =
    elim (first_breach rules (reported_by rules reading).frames) [
      | inl all ↦ (reported_by rules reading, inl (all, refl))
      | inr f ↦ (
        record { frames = f.before; error = Some (invalid_by f.broken f.breach) },
        inr (record {
          broken = f.broken;
          others = f.others;
          breach = f.breach;
          parts = f.parts;
          kept = f.kept;
          breaks = f.breaks;
          reported = refl;
        }),
      )
    ]

pub one_checked : (rules : Rules) (before : Option ℕ) (bytes : List ℕ) → AreBytes bytes
    → ExactlyOne (IsCheckedAfter rules before bytes)
one_checked rules before bytes fits =
    let one = one_reading rules.short_types before bytes fits in
    let here = has_checked rules one.it in
    record {
      it = here.0;
      is = (one.it, one.is, here.1);
      only = λ other is.
          checked_once rules one.it other here.0
          (subst (λ (r : Reading). IsCheckedReading rules r other) (one.only is.0 is.1) is.2) here.1;
    }

-- ---- how many items it has

count_is : (rules : Rules) (reading : Reading) → checked_count (reported_by rules reading) ≡ item_count reading
count_is rules (Complete found) = omega arith
count_is rules (FailsAfter found type reason) = refl

frames_few : (rules : Rules) (reading : Reading) → length (reported_by rules reading).frames ≤ item_count reading
frames_few rules (Complete found) = omega arith
frames_few rules (FailsAfter found type reason) = omega arith

fewer : (rules : Rules) (reading : Reading) (checked : Checked) → IsCheckedReading rules reading checked
    → checked_count checked ≤ item_count reading
fewer rules reading checked (inl s) = omega (arith, ap checked_count s.1, count_is rules reading)
fewer rules reading checked (inr s) =
    let sizes : length (reported_by rules reading).frames ≡ length checked.frames + length (s.broken ∷ s.others) =
    ap length s.parts ∙ length-append checked.frames (s.broken ∷ s.others) in
    let one : checked_count checked ≡ length checked.frames + 1 =
    ap (λ (e : Option Invalid). checked_count (record { frames = checked.frames; error = e })) s.reported in
    omega (arith, sizes, one, frames_few rules reading)

pub few_checked : (rules : Rules) (bytes : List ℕ) (checked : Checked) → AreBytes bytes
    → IsCheckedAfter rules None bytes checked → checked_count checked ≤ length bytes
few_checked rules bytes checked fits is =
    omega (arith, fewer rules is.0 checked is.2, few_items rules.short_types bytes is.0 fits is.1)

-- ---- without rules for frames

keeps_by : (short_types : Bool) (name : Name) (values : List Value) → breach_by (only_types short_types) name values ≡ None
keeps_by short_types Crypto (Number offset ∷ Bytes sent ∷ []) = refl
keeps_by short_types Stream (fin ∷ id ∷ Number offset ∷ Bytes sent ∷ []) = refl
keeps_by short_types MaxStreams (dir ∷ Number count ∷ []) = refl
keeps_by short_types StreamsBlocked (dir ∷ Number count ∷ []) = refl
keeps_by short_types NewToken (Bytes token ∷ []) = refl
keeps_by short_types name values = refl

all_keep : (short_types : Bool) (frames : List TypedFrame) → All (Keeps (only_types short_types)) frames
all_keep short_types [] = All-nil (Keeps (only_types short_types))
all_keep short_types (found ∷ frames) =
    All-cons (Keeps (only_types short_types)) found frames (keeps_by short_types found.frame.name found.frame.values)
    (all_keep short_types frames)

as_unchecked : (short_types : Bool) (reading : Reading) → unchecked reading ≡ reported_by (only_types short_types) reading
as_unchecked short_types (Complete found) = refl
as_unchecked short_types (FailsAfter found None UnexpectedEnd) = refl
as_unchecked short_types (FailsAfter found None InvalidFrameId) = refl
as_unchecked short_types (FailsAfter found None Malformed) = refl
as_unchecked short_types (FailsAfter found None LongType) = refl
as_unchecked short_types (FailsAfter found (Some t) UnexpectedEnd) = refl
as_unchecked short_types (FailsAfter found (Some t) InvalidFrameId) = refl
as_unchecked short_types (FailsAfter found (Some t) Malformed) = refl
as_unchecked short_types (FailsAfter found (Some t) LongType) = refl

pub unchecked_is : (short_types : Bool) (before : Option ℕ) (bytes : List ℕ) (reading : Reading)
    → IsReadingAfter short_types before bytes reading
    → IsCheckedAfter (only_types short_types) before bytes (unchecked reading)
unchecked_is short_types before bytes reading is = (
  reading,
  is,
  inl (all_keep short_types (reported_by (only_types short_types) reading).frames, as_unchecked short_types reading),
)
