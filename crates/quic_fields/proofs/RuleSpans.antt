-- The spans of a frame that is read by rules.
use Rattle.std.proofs.Common.{◌≡◌, ℕ, zero, suc, ◌+◌, ◌-◌, ◌≤◌, Bool, true, false, List, [], ◌∷◌, ◌++◌, length, take, drop, Ok, Err, Result, refl, sym, ap, subst, ◌∙◌, append_assoc, inl, inr, arith}
use Rattle.std.specs.Prelude.{IfSome, Option, Some, None, ◌⊎◌}
use Rattle.std.specs.List.{list_any}
use Rattle.std.specs.Option.{option_map_or}
use Rattle.std.proofs.lemmas.List.{length-take-le}
use Rattle.quic_base.specs.Number.{AreBytes}
use Rattle.quic_frame_fields.specs.declared.frame.fault.Fault.{Fault}
use Rattle.quic_frame_fields.specs.Field.{Value, Number, Field, is_rest, NoNumber}
use Rattle.quic_frame_fields.specs.Reading.{varint_at, field_at}
use Rattle.quic_frame_fields.specs.Table.{Name, Row, row_of, is_open}
use Rattle.quic_frame_fields.specs.Payload.{TypedFrame, IsFrame, IsNoFrame}
use Rattle.quic_frame_fields.proofs.Steps.{err_of, ok_is, true_is_not_false}
use Rattle.quic_frame_fields.proofs.Varints.{varint_again, varint_takes}
use Rattle.quic_frame_fields.proofs.Rows.{row_is_well}
use Rattle.quic_frames.specs.declared.frame.Frame.{Frame}
use Rattle.quic_frames.specs.declared.frame.rules.Rules.{Rules}
use Rattle.quic_frames.specs.IterState.{IterState}
use Rattle.quic_frame_fields.specs.Reading.{Invalid}
use Rattle.quic_frames.specs.Walk.{first_of, Finds, LacksFrame}
use Rattle.std.specs.Prelude.{slice_range}
use Rattle.std.proofs.lemmas.List.Folds.{drop_split}
use Rattle.std.proofs.Math.Seq.{drop-length}
use Rattle.quic_fields.specs.Kinds.{fields_in}
use Rattle.quic_frames.specs.declared.frame.rules.Breach.{Breach}
use Rattle.quic_frames.specs.Rules.{breach_of}
use Rattle.quic_fields.specs.declared.field.Span.{Span}
use Rattle.quic_fields.specs.declared.rules.Refusal.TheVariants.{NoFrame, Broken}
use Rattle.quic_fields.specs.Rules.{AllowsType, BreaksAt, broken_at, broken_fields, broken_type, broken_walk, FrontBreaks, FrontKeeps, HasSpansBy, LacksSpansBy}
use Rattle.quic_fields.specs.Spans.{span, IsNoFrameAt, AreInRow}
use Rattle.quic_fields.specs.Walk.{Walked, walk_at, after_field, frame_walk, stored, last_end, HasSpans, LacksSpans}
use Rattle.quic_fields.proofs.SpanLaws.{others_of, front_width, walk_again}
use Rattle.quic_fields.proofs.FrameWalks.{frame_again_at, frame_with_spans, frame_without, no_frame_again_at, no_frame_with_spans, walk_in_row}

-- ---- the first fields of a row

after_take : (n index start : ℕ) (field : Field) (fields : List Field) (before : List Value) (bytes : List ℕ)
    (x : List Value × List ℕ) (r : Result (List Value × List ℕ) Fault)
    → ((end : ℕ) (seen : List Value) (left : List ℕ) → (walk_at (index + 1) end fields seen left).1 ≡ Ok x
    → (walk_at (index + 1) end (take n fields) seen left).0 ≡ take n (walk_at (index + 1) end fields seen left).0)
    → (after_field index start (length bytes) (others_of index fields before) r).1 ≡ Ok x
    → (after_field index start (length bytes) (others_of index (take n fields) before) r).0
    ≡ take (suc n) (after_field index start (length bytes) (others_of index fields before) r).0
after_take n index start field fields before bytes x (Err d) others e = absurd cc
after_take n index start field fields before bytes x (Ok y) others e =
    let w = length bytes - length y.1 in
    ap (λ (l : List Span). span index start y.0 w ∷ l) (others (start + w) (before ++ y.0) y.1 e)

walk_take : (n index start : ℕ) (fields : List Field) (before : List Value) (bytes : List ℕ)
    (x : List Value × List ℕ) → (walk_at index start fields before bytes).1 ≡ Ok x
    → (walk_at index start (take n fields) before bytes).0 ≡ take n (walk_at index start fields before bytes).0
walk_take zero index start fields before bytes x e = refl
walk_take (suc n) index start [] before bytes x e = refl
walk_take (suc n) index start (field ∷ fields) before bytes x e =
    after_take n index start field fields before bytes x (field_at field before bytes)
    (λ end seen left. walk_take n (index + 1) end fields seen left x) e

after_count : (index start : ℕ) (field : Field) (fields : List Field) (before : List Value) (bytes : List ℕ)
    (x : List Value × List ℕ) (r : Result (List Value × List ℕ) Fault)
    → ((end : ℕ) (seen : List Value) (left : List ℕ) → (walk_at (index + 1) end fields seen left).1 ≡ Ok x
    → length (walk_at (index + 1) end fields seen left).0 ≡ length fields)
    → (after_field index start (length bytes) (others_of index fields before) r).1 ≡ Ok x
    → length (after_field index start (length bytes) (others_of index fields before) r).0 ≡ suc (length fields)
after_count index start field fields before bytes x (Err d) others e = absurd cc
after_count index start field fields before bytes x (Ok y) others e =
    ap suc (others (start + (length bytes - length y.1)) (before ++ y.0) y.1 e)

walk_count : (index start : ℕ) (fields : List Field) (before : List Value) (bytes : List ℕ)
    (x : List Value × List ℕ) → (walk_at index start fields before bytes).1 ≡ Ok x
    → length (walk_at index start fields before bytes).0 ≡ length fields
walk_count index start [] before bytes x e = refl
walk_count index start (field ∷ fields) before bytes x e =
    after_count index start field fields before bytes x (field_at field before bytes)
    (λ end seen left. walk_count (index + 1) end fields seen left x) e

-- ---- the field of a rule

record IsIndex (fields : List Field) : Type 0 where
  m : ℕ
  is : broken_at fields ≡ suc m
  within : m ≤ length fields

by_rest : (next : Field) (fields : List Field) (b : Bool) → is_rest next ≡ b → IsIndex (next ∷ fields)
    → (field : Field) → IsIndex (field ∷ next ∷ fields)
by_rest next fields true e others field = record { m = 0; is = rw (e) refl; within = omega arith }
by_rest next fields false e others field =
    record { m = suc others.m; is = rw (e, others.is) (omega arith); within = omega (arith, others.within) }

index_of : (fields : List Field) → IsIndex fields
index_of [] = record { m = 0; is = refl; within = omega arith }
index_of (field ∷ []) = record { m = 0; is = refl; within = omega arith }
index_of (field ∷ next ∷ fields) = by_rest next fields (is_rest next) refl (index_of (next ∷ fields)) field

-- ---- the frame at the front

abbrev values_in : Result (List Value × List ℕ) Fault → List Value
values_in (Ok x) = x.0
values_in (Err e) = []

abbrev is_read : Result (List Value × List ℕ) Fault → Bool
is_read (Ok x) = true
is_read (Err e) = false

same_row : (a b : Row) → Some a ≡ Some b → a ≡ b
same_row a b e = cc

-- two frames at the front of the same bytes are the same
pub same_frame : (one two : TypedFrame) (front back other left : List ℕ) → front ++ back ≡ other ++ left
    → IsFrame false one front → (is_open one.type ≡ true → back ≡ [])
    → IsFrame false two other → (is_open two.type ≡ true → left ≡ []) → one.frame ≡ two.frame
same_frame one two front back other left same s closed t ended =
    let a = frame_with_spans false one front s in
    let b = frame_with_spans false two other t in
    let w = frame_again_at false one a.0 front back a.1 closed in
    let v = frame_again_at false two b.0 other left b.1 ended in
    let values : one.frame.values ≡ two.frame.values = ap (λ (w : Walked). values_in w.1) (sym w ∙ ap frame_walk same ∙ v) in
    let regrouped : front ++ back ≡ s.type_bytes ++ (s.field_bytes ++ back) =
    ap (λ (l : List ℕ). l ++ back) s.parts ∙ append_assoc s.type_bytes s.field_bytes back in
    let again : other ++ left ≡ t.type_bytes ++ (t.field_bytes ++ left) =
    ap (λ (l : List ℕ). l ++ left) t.parts ∙ append_assoc t.type_bytes t.field_bytes left in
    let first = varint_again one.type s.type_bytes (s.field_bytes ++ back) s.type_encoded.encoded in
    let second = varint_again two.type t.type_bytes (t.field_bytes ++ left) t.type_encoded.encoded in
    let read = sym first ∙ ap varint_at (sym regrouped ∙ same ∙ again) ∙ second in
    let type : one.type ≡ two.type = ap (λ (p : ℕ × List ℕ). p.0)
    (ok_is (one.type, s.field_bytes ++ back) (two.type, t.field_bytes ++ left) read) in
    let row : s.row ≡ t.row = same_row s.row t.row (sym s.in_table ∙ ap row_of type ∙ t.in_table) in
    let name : one.frame.name ≡ two.frame.name = s.name ∙ ap (λ (r : Row). r.name) row ∙ sym t.name in
    ap (λ (n : Name). record { name = n; values = one.frame.values }) name
    ∙ ap (λ (v : List Value). record { name = two.frame.name; values = v }) values

-- no frame begins bytes that a frame begins
pub not_both : (found : TypedFrame) (front back : List ℕ) (before type : Option ℕ) (reason : Fault)
    → AreBytes (front ++ back) → IsFrame false found front → (is_open found.type ≡ true → back ≡ [])
    → IsNoFrame false before (front ++ back) type reason → ⊥
not_both found front back before type reason fits s closed n =
    let a = frame_with_spans false found front s in
    let w = frame_again_at false found a.0 front back a.1 closed in
    let b = no_frame_with_spans before (front ++ back) type reason n in
    let v = no_frame_again_at (front ++ back) b.0 b.1 reason fits b.2 in
    true_is_not_false (ap (λ (w : Walked). is_read w.1) (sym w ∙ v.0))

-- ---- a frame that breaks a rule

abbrev is_open_row : Option Row → Bool
is_open_row row = option_map_or (λ (r : Row). list_any is_rest r.fields) row false

one_less : (m : ℕ) → suc m - 1 ≡ m
one_less m = omega arith

record IsPart (fields : List Field) (all spans : List Span) : Type 0 where
  is : spans ≡ take (broken_at fields) all
  count : length spans ≡ broken_at fields

part_of : (fields : List Field) (all spans : List Span) → length all ≡ suc (length fields)
    → ((m : ℕ) → broken_at fields ≡ suc m → spans ≡ take (suc m) all) → IsPart fields all spans
part_of fields all spans counted taken =
    let i = index_of fields in
    let here = taken i.m i.is in
    record {
      is = here ∙ ap (λ (n : ℕ). take n all) (sym i.is);
      count = ap length here ∙ length-take-le (suc i.m) all (omega (arith, counted, i.within)) ∙ sym i.is;
    }

pub broken_is : (rules : Rules) (bytes : List ℕ) (breach : Breach) → AllowsType rules bytes
    → FrontBreaks rules bytes breach
    → BreaksAt rules bytes (broken_walk bytes) (length (broken_walk bytes)) breach
broken_is rules bytes breach allowed b =
    let a = frame_with_spans false b.found b.front b.frame in
    let s = a.1 in
    let regrouped : b.front ++ b.back ≡ s.type_bytes ++ (s.field_bytes ++ b.back) =
    ap (λ (l : List ℕ). l ++ b.back) s.parts ∙ append_assoc s.type_bytes s.field_bytes b.back in
    let text = s.field_bytes ++ b.back in
    let width = length s.type_bytes in
    let one = varint_again b.found.type s.type_bytes text s.type_encoded.encoded in
    let wide = front_width (s.type_bytes ++ text) s.type_bytes text refl in
    let row_closed : list_any is_rest s.row.fields ≡ true → b.back ≡ [] = λ h. b.opens (ap is_open_row s.in_table ∙ h) in
    let two = walk_again 1 width s.row.fields [] s.others b.found.frame.values s.field_bytes b.back
    (row_is_well b.found.type s.row s.in_table) row_closed s.fields in
    let read : (walk_at 1 width s.row.fields [] text).1 ≡ Ok (b.found.frame.values, b.back) = ap (λ (w : Walked). w.1) two in
    let listed : (walk_at 1 width s.row.fields [] text).0 ≡ s.others = ap (λ (w : Walked). w.0) two in
    let count = walk_count 1 width s.row.fields [] text (b.found.frame.values, b.back) read in
    let part = part_of s.row.fields a.0 (broken_walk bytes) (omega (arith, ap length s.all, count, ap length listed))
    (λ m e. let some = walk_take m 1 width s.row.fields [] text (b.found.frame.values, b.back) read in
    rw (b.parts, regrouped, one, s.in_table, wide, e, one_less m, some, listed, s.all) refl) in
    record {
      allowed = allowed;
      found = b.found;
      all = a.0;
      front = b.front;
      back = b.back;
      parts = b.parts;
      frame = s;
      opens = b.opens;
      breaks = b.breaks;
      index = part.count;
      before = part.is ∙ ap (λ (n : ℕ). take n a.0) (sym part.count);
    }

abbrev type_span : ℕ → ℕ → Span
type_span type width = record { field = 0; start = 0; end = width; number = type }

type_span_is : (type width : ℕ) → span 0 0 (Number type ∷ []) width ≡ type_span type width
type_span_is type width = ap (λ (k : ℕ). type_span type k) (omega arith)

broken_fields_is : (type width : ℕ) (bytes : List ℕ) (fields : List Field) (o : Option Row) → fields_in o ≡ Some fields
    → broken_fields type width bytes o
    ≡ type_span type width ∷ (walk_at 1 width (take (broken_at fields - 1) fields) [] bytes).0
broken_fields_is type width bytes fields None e = absurd cc
broken_fields_is type width bytes fields (Some r) e =
    let same : r.fields ≡ fields = cc in
    rw (same, type_span_is type width) refl

pub broken_walk_is : (bytes : List ℕ) (type : ℕ) (rest : List ℕ) (fields : List Field)
    → varint_at bytes ≡ Ok (type, rest) → fields_in (row_of type) ≡ Some fields
    → broken_walk bytes ≡ type_span type (length bytes - length rest)
    ∷ (walk_at 1 (length bytes - length rest) (take (broken_at fields - 1) fields) [] rest).0
broken_walk_is bytes type rest fields e f =
    ap (broken_type (length bytes)) e ∙ broken_fields_is type (length bytes - length rest) rest fields (row_of type) f

broken_row : (type width : ℕ) (bytes : List ℕ) (o : Option Row)
    → AreInRow 0 (broken_fields type width bytes o) (last_end 0 (broken_fields type width bytes o))
broken_row type width bytes None = refl
broken_row type width bytes (Some r) =
    let fields = take (broken_at r.fields - 1) r.fields in
    let zero_and : 0 + width ≡ width = omega arith in (
      refl,
      omega arith,
      subst (λ (k : ℕ). AreInRow k (walk_at 1 width fields [] bytes).0
          (last_end k (walk_at 1 width fields [] bytes).0)) (sym zero_and) (walk_in_row 1 width fields [] bytes),
    )

broken_type_row : (total : ℕ) (v : Result (ℕ × List ℕ) Fault)
    → AreInRow 0 (broken_type total v) (last_end 0 (broken_type total v))
broken_type_row total (Err e) = refl
broken_type_row total (Ok x) = broken_row x.0 (total - length x.1) x.1 (row_of x.0)

pub lacks_broken : (rules : Rules) (payload : List ℕ) (old new : List Span) (count end : ℕ) (breach : Breach)
    → AllowsType rules payload → FrontBreaks rules payload breach → new ≡ stored 0 (broken_walk payload) old
    → count ≡ length (broken_walk payload) → end ≡ last_end 0 (broken_walk payload)
    → LacksSpansBy rules payload old new count end (Broken breach)
lacks_broken rules payload old new count end breach allowed b there counted ended = record {
  spans = broken_walk payload;
  refused = subst (λ (n : ℕ). BreaksAt rules payload (broken_walk payload) n breach) (sym counted)
      (broken_is rules payload breach allowed b);
  room = there;
  all = counted;
  stop = rw (ended) (broken_type_row (length payload) (varint_at payload));
}

-- ---- a frame that breaks none, and no frame

no_number_in : (bytes : List ℕ) (found : TypedFrame) (front back : List ℕ) → bytes ≡ front ++ back
    → IsFrame false found front → NoNumber bytes → ⊥
no_number_in bytes found front back parts s none = none found.type s.type_bytes (s.field_bytes ++ back)
    (parts ∙ ap (λ (l : List ℕ). l ++ back) s.parts ∙ append_assoc s.type_bytes s.field_bytes back) s.type_encoded.encoded

pub allowed_of : (rules : Rules) (bytes : List ℕ) (found : TypedFrame) (front back : List ℕ) → bytes ≡ front ++ back
    → IsFrame false found front → NoNumber bytes ⊎ AllowsType rules bytes → AllowsType rules bytes
allowed_of rules bytes found front back parts s (inl none) = absurd (no_number_in bytes found front back parts s none)
allowed_of rules bytes found front back parts s (inr allowed) = allowed

pub has_by : (rules : Rules) (payload : List ℕ) (old new : List Span) (count end : ℕ)
    → HasSpans payload old new count end → NoNumber payload ⊎ AllowsType rules payload → FrontKeeps rules payload
    → HasSpansBy rules payload old new count end
has_by rules payload old new count end h judged keeps =
    let frame = frame_without false h.found h.spans h.front h.frame in
    record {
      plain = h;
      allowed = allowed_of rules payload h.found h.front h.back h.parts frame judged;
      kept = keeps h.found h.front h.back h.parts frame h.opens;
    }

pub lacks_by : (rules : Rules) (payload : List ℕ) (old new : List Span) (count end : ℕ) (reason : Fault)
    → LacksSpans payload old new count end reason → NoNumber payload ⊎ AllowsType rules payload
    → LacksSpansBy rules payload old new count end (NoFrame reason)
lacks_by rules payload old new count end reason l judged = record {
  spans = l.spans;
  refused = inr (judged, l.no_frame);
  room = l.room;
  all = l.all;
  stop = l.stop;
}

pub allowed_front : (rules : Rules) (payload : List ℕ) (breach : Breach) → FrontBreaks rules payload breach
    → NoNumber payload ⊎ AllowsType rules payload → AllowsType rules payload
allowed_front rules payload breach b judged =
    allowed_of rules payload b.found b.front b.back b.parts b.frame judged

-- ---- what the iterator finds

pub record IsFront (found : TypedFrame) (bytes : List ℕ) : Type 0 where
  pub front : List ℕ
  pub back : List ℕ
  pub parts : bytes ≡ front ++ back
  pub frame : IsFrame false found front
  pub opens : is_open found.type ≡ true → back ≡ []

pub front_of : (payload : List ℕ) (frame : Frame) (new : IterState) (s : Finds (first_of false payload) frame new)
    → IsFront s.found payload
front_of payload frame new s = record {
  front = slice_range payload 0 new.offset;
  back = drop new.offset payload;
  parts = drop_split payload 0 new.offset (omega arith);
  frame = s.stands.encoded;
  opens = λ h. ap (λ (n : ℕ). drop n payload) (s.ends h) ∙ drop-length payload;
}

pub breaks_in : (rules : Rules) (payload : List ℕ) (found : TypedFrame) → IsFront found payload → (o : Option Breach)
    → o ≡ breach_of rules found.frame → IfSome o (λ breach. FrontBreaks rules payload breach)
breaks_in rules payload found f None e = tt
breaks_in rules payload found f (Some breach) e = record {
  found = found;
  front = f.front;
  back = f.back;
  parts = f.parts;
  frame = f.frame;
  opens = f.opens;
  breaks = sym e;
}

pub keeps_in : (rules : Rules) (payload : List ℕ) (found : TypedFrame) → IsFront found payload → (o : Option Breach)
    → o ≡ breach_of rules found.frame → o ≡ None → FrontKeeps rules payload
keeps_in rules payload found f o e none = λ other front back parts s opens.
    ap (breach_of rules) (same_frame other found front back f.front f.back (sym parts ∙ f.parts) s opens f.frame f.opens)
    ∙ sym e ∙ none

pub keeps_none : (rules : Rules) (payload : List ℕ) (reported : Invalid) → AreBytes payload
    → LacksFrame (first_of false payload) reported → FrontKeeps rules payload
keeps_none rules payload reported fits l = λ found front back parts s opens.
    absurd (not_both found front back None l.type l.reason (subst AreBytes parts fits) s opens
    (subst (λ (b : List ℕ). IsNoFrame false None b l.type l.reason) parts l.no_frame))

pub none_left : {A : Type 0} (o : Option A) → ((x : A) → o ≡ Some x → ⊥) → o ≡ None
none_left None never = refl
none_left (Some x) never = absurd (never x refl)
