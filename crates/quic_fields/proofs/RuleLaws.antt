-- Under rules, too, bytes begin with a frame that has one list of spans, or one field is at fault.
use Rattle.std.proofs.Common.{◌≡◌, ℕ, ◌-◌, Bool, true, false, cond, List, [], ◌∷◌, ◌++◌, length, take, Ok, Err, Result, refl, sym, ap, ◌∙◌, append_assoc, inl, inr}
use Rattle.std.specs.Prelude.{Option, Some, None, ◌⊎◌}
use Rattle.quic_base.specs.Number.{AreBytes}
use Rattle.quic_base.specs.Varint.{Encodes}
use Rattle.quic_frame_fields.specs.declared.frame.fault.Fault.{Fault}
use Rattle.quic_frame_fields.specs.declared.frame.fault.Fault.TheVariants.{InvalidFrameId, LongType}
use Rattle.quic_frame_fields.specs.Field.{Value, NoNumber}
use Rattle.quic_frame_fields.specs.Payload.{TypedFrame, IsType, HasLongType}
use Rattle.quic_frame_fields.specs.Reading.{varint_at, is_long_type}
use Rattle.quic_frame_fields.specs.Table.{Row, row_of, is_open}
use Rattle.quic_frame_fields.proofs.Steps.{err_of, ok_is, true_is_not_false}
use Rattle.quic_frame_fields.proofs.Varints.{varint_again, varint_takes}
use Rattle.quic_frames.specs.declared.frame.rules.Breach.{Breach}
use Rattle.quic_frames.specs.declared.frame.rules.Rules.{Rules}
use Rattle.quic_frames.specs.Rules.{Keeps, breach_of, is_unknown_by}
use Rattle.quic_fields.specs.declared.field.Span.{Span}
use Rattle.quic_fields.specs.declared.rules.Refusal.{Refusal}
use Rattle.quic_fields.specs.declared.rules.Refusal.TheVariants.{NoFrame, Broken}
use Rattle.quic_fields.specs.Rules.{AllowsType, BreaksAt, ForbidsType, IsAllowedAt, IsRefusedAt, broken_at, broken_walk, type_fault_at}
use Rattle.quic_fields.specs.Spans.{IsFrameAt, IsNoFrameAt}
use Rattle.quic_fields.specs.Walk.{Walked, frame_walk}
use Rattle.quic_fields.proofs.FrameWalks.{frame_again_at, frame_stops_at, frame_takes_at, frame_without, no_frame_again_at, one_list_at, one_stop_at}
use Rattle.quic_fields.proofs.RuleSpans.{allowed_of, broken_is, same_frame}
use Rattle.quic_fields.proofs.SpanLaws.{front_width}
use Rattle.quic_fields.proofs.TypeRules.{is_type, judged, not_long, refused}

-- ---- what the rules say of the type

type_fault_is : (rules : Rules) (bytes front back : List ℕ) (t : ℕ) → bytes ≡ front ++ back → Encodes t front
    → type_fault_at rules (length bytes) (varint_at bytes)
    ≡ cond (is_long_type rules.short_types t (length front)) (Some LongType)
    (cond (is_unknown_by rules (Some t)) (Some InvalidFrameId) None)
type_fault_is rules bytes front back t parts s =
    ap (type_fault_at rules (length bytes)) (ap varint_at parts ∙ varint_again t front back s)
    ∙ ap (λ (n : ℕ). cond (is_long_type rules.short_types t n) (Some LongType)
    (cond (is_unknown_by rules (Some t)) (Some InvalidFrameId) None)) (front_width bytes front back parts)

long_is : (strict : Bool) (bytes : List ℕ) (t : ℕ) (l : HasLongType strict bytes t) (b : Bool)
    → is_long_type strict t (length l.front) ≡ b → b ≡ true
long_is strict bytes t l true e = refl
long_is strict bytes t l false e = absurd (l.long ((is_type strict t l.front l.encoded e).shortest l.counts))

short_is : (strict : Bool) (t : ℕ) (front : List ℕ) (s : IsType strict t front) (b : Bool)
    → is_long_type strict t (length front) ≡ b → b ≡ false
short_is strict t front s false e = refl
short_is false t front s true e = absurd cc
short_is true t front s true e = absurd (not_long t front (s.shortest refl) e)

forbidden_is : (rules : Rules) (bytes : List ℕ) (reason : Fault) → ForbidsType rules bytes reason
    → type_fault_at rules (length bytes) (varint_at bytes) ≡ Some reason
forbidden_is rules bytes reason (t, inl s) =
    let l = s.0 in
    type_fault_is rules bytes l.front l.back t l.parts l.encoded
    ∙ rw (long_is rules.short_types bytes t l (is_long_type rules.short_types t (length l.front)) refl, s.1) refl
forbidden_is rules bytes reason (t, inr s) =
    let b = s.0 in
    type_fault_is rules bytes b.front b.back t b.parts b.encoded.encoded
    ∙ rw (short_is rules.short_types t b.front b.encoded (is_long_type rules.short_types t (length b.front)) refl, b.then, s.1)
    refl

allowed_is : (rules : Rules) (bytes : List ℕ) → AreBytes bytes → NoNumber bytes ⊎ AllowsType rules bytes
    → type_fault_at rules (length bytes) (varint_at bytes) ≡ None
allowed_is rules bytes fits (inl none) =
    let failed =
    err_of (varint_at bytes) (λ x h. let t = varint_takes bytes x.0 x.1 fits h in none x.0 t.front x.1 t.split t.is) in
    ap (type_fault_at rules (length bytes)) failed.1
allowed_is rules bytes fits (inr (t, b)) =
    type_fault_is rules bytes b.front b.back t b.parts b.encoded.encoded
    ∙ rw (short_is rules.short_types t b.front b.encoded (is_long_type rules.short_types t (length b.front)) refl, b.then) refl

-- the type is rejected, and it isn't
not_judged : (rules : Rules) (bytes : List ℕ) (reason : Fault) → AreBytes bytes → ForbidsType rules bytes reason
    → NoNumber bytes ⊎ AllowsType rules bytes → ⊥
not_judged rules bytes reason fits f a =
    let e : Some reason ≡ None = sym (forbidden_is rules bytes reason f) ∙ allowed_is rules bytes fits a in absurd cc

some_is : (one two : Fault) → Some one ≡ Some two → one ≡ two
some_is one two e = cc

-- ---- a frame and none

abbrev is_read : Walked → Bool
is_read (spans, Ok x) = true
is_read (spans, Err e) = false

not_both_at : (found : TypedFrame) (all spans : List Span) (bytes front back : List ℕ) (at : ℕ) (reason : Fault)
    → AreBytes bytes → bytes ≡ front ++ back → IsFrameAt false found all front → (is_open found.type ≡ true → back ≡ [])
    → IsNoFrameAt bytes spans at reason → ⊥
not_both_at found all spans bytes front back at reason fits parts s closed n =
    let w = ap frame_walk parts ∙ frame_again_at false found all front back s closed in
    let v = no_frame_again_at bytes spans at reason fits n in
    true_is_not_false (ap is_read (sym w ∙ v.0))

row_is : (a b : Row) → Some a ≡ Some b → a ≡ b
row_is a b e = cc

-- two frames at the front have the same row
same_row : (one two : TypedFrame) (all others : List Span) (bytes front back other left : List ℕ)
    → bytes ≡ front ++ back → bytes ≡ other ++ left → (s : IsFrameAt false one all front)
    → (t : IsFrameAt false two others other) → s.row ≡ t.row
same_row one two all others bytes front back other left parts again s t =
    let first = parts ∙ ap (λ (l : List ℕ). l ++ back) s.parts ∙ append_assoc s.type_bytes s.field_bytes back in
    let second = again ∙ ap (λ (l : List ℕ). l ++ left) t.parts ∙ append_assoc t.type_bytes t.field_bytes left in
    let read = sym (varint_again one.type s.type_bytes (s.field_bytes ++ back) s.type_encoded.encoded)
    ∙ ap varint_at (sym first ∙ second)
    ∙ varint_again two.type t.type_bytes (t.field_bytes ++ left) t.type_encoded.encoded in
    let type : one.type ≡ two.type = ap (λ (p : ℕ × List ℕ). p.0)
    (ok_is (one.type, s.field_bytes ++ back) (two.type, t.field_bytes ++ left) read) in
    row_is s.row t.row (sym s.in_table ∙ ap row_of type ∙ t.in_table)

breach_is : (one two : Breach) → Some one ≡ Some two → one ≡ two
breach_is one two e = cc

same_breach : (rules : Rules) (bytes : List ℕ) (spans others : List Span) (at other : ℕ) (one two : Breach)
    → BreaksAt rules bytes spans at one → BreaksAt rules bytes others other two
    → (spans ≡ others) × (at ≡ other) × (one ≡ two)
same_breach rules bytes spans others at other one two f g =
    let same = sym f.parts ∙ g.parts in
    let frame = same_frame f.found g.found f.front f.back g.front g.back same
    (frame_without false f.found f.all f.front f.frame) f.opens (frame_without false g.found g.all g.front g.frame) g.opens in
    let row = same_row f.found g.found f.all g.all bytes f.front f.back g.front g.back f.parts g.parts f.frame g.frame in
    let index = f.index ∙ ap (λ (r : Row). broken_at r.fields) row ∙ sym g.index in
    let w = frame_again_at false f.found f.all f.front f.back f.frame f.opens in
    let v = frame_again_at false g.found g.all g.front g.back g.frame g.opens in
    let all : f.all ≡ g.all = ap (λ (w : Walked). w.0) (sym w ∙ ap frame_walk same ∙ v) in (
      f.before ∙ ap (λ (n : ℕ). take n f.all) index ∙ ap (take other) all ∙ sym g.before,
      index,
      breach_is one two (sym f.breaks ∙ ap (breach_of rules) frame ∙ g.breaks),
    )

-- ---- the laws

pub one_refusal : (rules : Rules) (bytes : List ℕ) (spans others : List Span) (at other : ℕ) (one two : Refusal)
    → AreBytes bytes → IsRefusedAt rules bytes spans at one → IsRefusedAt rules bytes others other two
    → (spans ≡ others) × (at ≡ other) × (one ≡ two)
one_refusal rules bytes spans others at other (NoFrame d) (NoFrame e) fits (inl f) (inl g) =
    let same = some_is d e (sym (forbidden_is rules bytes d f.0) ∙ forbidden_is rules bytes e g.0) in
    (f.1 ∙ sym g.1, f.2 ∙ sym g.2, ap NoFrame same)
one_refusal rules bytes spans others at other (NoFrame d) (NoFrame e) fits (inl f) (inr g) =
    absurd (not_judged rules bytes d fits f.0 g.0)
one_refusal rules bytes spans others at other (NoFrame d) (NoFrame e) fits (inr f) (inl g) =
    absurd (not_judged rules bytes e fits g.0 f.0)
one_refusal rules bytes spans others at other (NoFrame d) (NoFrame e) fits (inr f) (inr g) =
    let s = one_stop_at bytes spans others at other d e fits f.1 g.1 in (s.0, s.1, ap NoFrame s.2)
one_refusal rules bytes spans others at other (NoFrame d) (Broken b) fits (inl f) g =
    absurd (not_judged rules bytes d fits f.0 (inr g.allowed))
one_refusal rules bytes spans others at other (NoFrame d) (Broken b) fits (inr f) g =
    absurd (not_both_at g.found g.all spans bytes g.front g.back at d fits g.parts g.frame g.opens f.1)
one_refusal rules bytes spans others at other (Broken b) (NoFrame e) fits f (inl g) =
    absurd (not_judged rules bytes e fits g.0 (inr f.allowed))
one_refusal rules bytes spans others at other (Broken b) (NoFrame e) fits f (inr g) =
    absurd (not_both_at f.found f.all others bytes f.front f.back other e fits f.parts f.frame f.opens g.1)
one_refusal rules bytes spans others at other (Broken b) (Broken c) fits f g =
    let s = same_breach rules bytes spans others at other b c f g in (s.0, s.1, ap Broken s.2)

pub not_refused : (rules : Rules) (bytes : List ℕ) (spans others : List Span) (at : ℕ) (reason : Refusal) → AreBytes bytes
    → IsAllowedAt rules bytes spans → IsRefusedAt rules bytes others at reason → ⊥
not_refused rules bytes spans others at (NoFrame d) fits a (inl f) =
    not_judged rules bytes d fits f.0 (inr a.allowed)
not_refused rules bytes spans others at (NoFrame d) fits a (inr f) =
    not_both_at a.found spans others bytes a.front a.back at d fits a.parts a.frame a.opens f.1
not_refused rules bytes spans others at (Broken b) fits a g =
    let frame = same_frame a.found g.found a.front a.back g.front g.back (sym a.parts ∙ g.parts)
    (frame_without false a.found spans a.front a.frame) a.opens (frame_without false g.found g.all g.front g.frame) g.opens in
    let e : None ≡ Some b = sym a.kept ∙ ap (breach_of rules) frame ∙ g.breaks in
    absurd cc

pub one_list_by : (rules : Rules) (bytes : List ℕ) (spans others : List Span) → IsAllowedAt rules bytes spans
    → IsAllowedAt rules bytes others → spans ≡ others
one_list_by rules bytes spans others a b =
    let w = frame_again_at false a.found spans a.front a.back a.frame a.opens in
    let v = frame_again_at false b.found others b.front b.back b.frame b.opens in
    ap (λ (w : Walked). w.0) (sym w ∙ ap frame_walk (sym a.parts ∙ b.parts) ∙ v)

abbrev IsAnswered : Rules → List ℕ → Type 0
IsAnswered rules bytes = ((spans : List Span) × IsAllowedAt rules bytes spans)
    ⊎ ((spans : List Span) × (at : ℕ) × (reason : Refusal) × IsRefusedAt rules bytes spans at reason)

by_breach : (rules : Rules) (bytes : List ℕ) (found : TypedFrame) (spans : List Span) (front back : List ℕ)
    (o : Option Breach) → bytes ≡ front ++ back → IsFrameAt false found spans front
    → (is_open found.type ≡ true → back ≡ []) → AllowsType rules bytes → breach_of rules found.frame ≡ o
    → IsAnswered rules bytes
by_breach rules bytes found spans front back None parts s opens allowed e = inl (
  spans,
  record {
    found = found;
    front = front;
    back = back;
    parts = parts;
    frame = s;
    opens = opens;
    allowed = allowed;
    kept = e;
  },
)
by_breach rules bytes found spans front back (Some breach) parts s opens allowed e =
    let broken = broken_is rules bytes breach allowed (record {
      found = found;
      front = front;
      back = back;
      parts = parts;
      frame = frame_without false found spans front s;
      opens = opens;
      breaks = e;
    }) in
    inr (broken_walk bytes, length (broken_walk bytes), Broken breach, broken)

by_walk : (rules : Rules) (bytes : List ℕ) (r : Result (List Value × List ℕ) Fault) → AreBytes bytes
    → (frame_walk bytes).1 ≡ r → NoNumber bytes ⊎ AllowsType rules bytes → IsAnswered rules bytes
by_walk rules bytes (Ok x) fits e a =
    let t = frame_takes_at bytes x fits e in
    let s = frame_without false t.found (frame_walk bytes).0 t.front t.frame in
    by_breach rules bytes t.found (frame_walk bytes).0 t.front x.1 (breach_of rules t.found.frame) t.parts t.frame t.opens
    (allowed_of rules bytes t.found t.front x.1 t.parts s a) refl
by_walk rules bytes (Err d) fits e a =
    let n = frame_stops_at bytes d (length (frame_walk bytes).0) fits refl e in
    inr ((frame_walk bytes).0, length (frame_walk bytes).0, NoFrame d, inr (a, n))

by_type : (rules : Rules) (bytes : List ℕ) (o : Option Fault) → AreBytes bytes
    → type_fault_at rules (length bytes) (varint_at bytes) ≡ o → IsAnswered rules bytes
by_type rules bytes (Some reason) fits e =
    inr ([], 0, NoFrame reason, inl (refused rules bytes (varint_at bytes) reason fits refl e, refl, refl))
by_type rules bytes None fits e =
    by_walk rules bytes (frame_walk bytes).1 fits refl (judged rules bytes (varint_at bytes) fits refl e)

pub answered : (rules : Rules) (bytes : List ℕ) → AreBytes bytes → IsAnswered rules bytes
answered rules bytes fits = by_type rules bytes (type_fault_at rules (length bytes) (varint_at bytes)) fits refl
