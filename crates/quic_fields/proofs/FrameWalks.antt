-- What reading the frame at the front finds.
use Rattle.std.proofs.Common.{◌≡◌, ℕ, ◌+◌, ◌-◌, Bool, true, false, List, [], ◌∷◌, ◌++◌, length, Ok, Err, Result, refl, sym, ap, subst, ◌∙◌, append_assoc, length-append, inl, inr, arith}
use Rattle.std.specs.Prelude.{◌≢◌, IfSome, Option, Some, None}
use Rattle.std.specs.List.{list_any}
use Rattle.std.specs.Option.{option_map_or}
use Rattle.quic_base.specs.Number.{AreBytes}
use Rattle.quic_base.specs.Varint.{Encodes}
use Rattle.quic_frame_fields.proofs.Steps.{true_is_not_false, err_of, failure}
use Rattle.quic_base.proofs.PublicLaws.{back_bytes}
use Rattle.quic_frame_fields.specs.declared.frame.fault.Fault.{Fault}
use Rattle.quic_frame_fields.specs.Field.{Value, Number, Field, is_rest, NoNumber}
use Rattle.quic_frame_fields.specs.Reading.{varint_at, field_at}
use Rattle.quic_frame_fields.specs.Table.{Row, row_of, is_open}
use Rattle.quic_frame_fields.specs.Payload.{TypedFrame, IsType, IsFrame, IsNoFrame}
use Rattle.quic_frame_fields.proofs.Varints.{varint_takes, varint_again, varint_fails}
use Rattle.quic_fields.specs.declared.field.Span.{Span}
use Rattle.quic_fields.specs.Kinds.{fields_in}
use Rattle.quic_fields.specs.Spans.{span, AreFieldsAt, IsFrameAt, IsNoFrameAt, AreInRow, AreNumbered}
use Rattle.quic_fields.specs.Inside.{stop_at, stop_in_row, stop_after_type, stop_in_frame}
use Rattle.quic_fields.specs.Walk.{Walked, walk_at, after_field, fields_walk, type_walk, frame_walk, stored, last_end, EndsAs, HasSpans, LacksSpans}
use Rattle.quic_frame_fields.proofs.Rows.{row_is_well}
use Rattle.quic_fields.proofs.SpanLaws.{others_of, front_width, walk_again, walk_stops_again, stops_without, stops_with_spans, fields_take_at, fields_stop_at, fields_without, fields_with_spans}

abbrev type_span : ℕ → ℕ → Span
type_span type width = record { field = 0; start = 0; end = width; number = type }

type_span_is : (type width : ℕ) → span 0 0 (Number type ∷ []) width ≡ type_span type width
type_span_is type width = ap (λ (k : ℕ). type_span type k) (omega arith)

fields_walk_is : (type width : ℕ) (bytes : List ℕ) (fields : List Field) (o : Option Row) → fields_in o ≡ Some fields
    → fields_walk type width bytes o ≡ (type_span type width ∷ (walk_at 1 width fields [] bytes).0, (walk_at 1 width fields [] bytes).1)
fields_walk_is type width bytes fields None e = absurd cc
fields_walk_is type width bytes fields (Some r) e =
    let same : r.fields ≡ fields = cc in
    rw (same, type_span_is type width) refl

pub frame_walk_is : (bytes : List ℕ) (type : ℕ) (rest : List ℕ) (fields : List Field) → varint_at bytes ≡ Ok (type, rest)
    → fields_in (row_of type) ≡ Some fields
    → frame_walk bytes ≡ (
      type_span type (length bytes - length rest)
          ∷ (walk_at 1 (length bytes - length rest) fields [] rest).0,
      (walk_at 1 (length bytes - length rest) fields [] rest).1,
    )
frame_walk_is bytes type rest fields e f =
    ap (type_walk (length bytes)) e ∙ fields_walk_is type (length bytes - length rest) rest fields (row_of type) f

row_stop_is : (o : Option Row) (bytes : List ℕ) (fields : List Field) → fields_in o ≡ Some fields
    → stop_in_row o bytes ≡ stop_at fields [] bytes
row_stop_is None bytes fields e = absurd cc
row_stop_is (Some r) bytes fields e = let same : r.fields ≡ fields = cc in rw (same) refl

pub stop_is : (bytes : List ℕ) (type : ℕ) (rest : List ℕ) (fields : List Field) → varint_at bytes ≡ Ok (type, rest)
    → fields_in (row_of type) ≡ Some fields → stop_in_frame bytes ≡ stop_at fields [] rest
stop_is bytes type rest fields e f = ap stop_after_type e ∙ row_stop_is (row_of type) rest fields f

-- ---- what is read is a frame with its spans

is_any : (t : ℕ) (front : List ℕ) → Encodes t front → IsType false t front
is_any t front s = record { encoded = s; shortest = λ h. absurd (true_is_not_false (sym h)) }

pub record TakesFrameAt (spans : List Span) (bytes left : List ℕ) : Type 0 where
  pub found : TypedFrame
  pub front : List ℕ
  pub parts : bytes ≡ front ++ left
  pub frame : IsFrameAt false found spans front
  pub opens : is_open found.type ≡ true → left ≡ []

abbrev pub is_open_row : Option Row → Bool
is_open_row row = option_map_or (λ (r : Row). list_any is_rest r.fields) row false

row_takes_at : (t : ℕ) (bytes front rest : List ℕ) (o : Option Row) (x : List Value × List ℕ) → AreBytes rest
    → bytes ≡ front ++ rest → Encodes t front → row_of t ≡ o
    → (fields_walk t (length front) rest o).1 ≡ Ok x
    → TakesFrameAt (fields_walk t (length front) rest o).0 bytes x.1
row_takes_at t bytes front rest None x fits parts s e h = absurd cc
row_takes_at t bytes front rest (Some r) x fits parts s e h =
    let u = fields_take_at 1 (length front) r.fields [] rest x fits h in
    record {
      found = record { type = t; frame = record { name = r.name; values = x.0 } };
      front = front ++ u.front;
      parts = parts ∙ ap (λ (l : List ℕ). front ++ l) u.parts ∙ sym (append_assoc front u.front x.1);
      frame = record {
        type_bytes = front;
        field_bytes = u.front;
        parts = refl;
        type_encoded = is_any t front s;
        row = r;
        in_table = e;
        name = refl;
        others = (walk_at 1 (length front) r.fields [] rest).0;
        all = refl;
        fields = u.encoded;
      };
      opens = λ o. u.opens (sym (ap is_open_row e) ∙ o);
    }

type_takes_at : (bytes : List ℕ) (v : Result (ℕ × List ℕ) Fault) (x : List Value × List ℕ) → AreBytes bytes
    → varint_at bytes ≡ v → (type_walk (length bytes) v).1 ≡ Ok x → TakesFrameAt (type_walk (length bytes) v).0 bytes x.1
type_takes_at bytes (Err e) x fits h e' = absurd cc
type_takes_at bytes (Ok y) x fits h e =
    let t = varint_takes bytes y.0 y.1 fits h in
    let wide = front_width bytes t.front y.1 t.split in
    let back_fits = back_bytes t.front y.1 (subst AreBytes t.split fits) in
    let here : (fields_walk y.0 (length t.front) y.1 (row_of y.0)).1 ≡ Ok x =
    subst (λ (n : ℕ). (fields_walk y.0 n y.1 (row_of y.0)).1 ≡ Ok x) wide e in
    subst (λ (n : ℕ). TakesFrameAt (fields_walk y.0 n y.1 (row_of y.0)).0 bytes x.1) (sym wide)
    (row_takes_at y.0 bytes t.front y.1 (row_of y.0) x back_fits t.split t.is refl here)

pub frame_takes_at : (bytes : List ℕ) (x : List Value × List ℕ) → AreBytes bytes → (frame_walk bytes).1 ≡ Ok x
    → TakesFrameAt (frame_walk bytes).0 bytes x.1
frame_takes_at bytes x fits e = type_takes_at bytes (varint_at bytes) x fits refl e

-- ---- a frame with its spans is read again

pub frame_again_at : (strict : Bool) (found : TypedFrame) (spans : List Span) (front left : List ℕ)
    → IsFrameAt strict found spans front → (is_open found.type ≡ true → left ≡ [])
    → frame_walk (front ++ left) ≡ (spans, Ok (found.frame.values, left))
frame_again_at strict found spans front left s closed =
    let regrouped : front ++ left ≡ s.type_bytes ++ (s.field_bytes ++ left) =
    ap (λ (l : List ℕ). l ++ left) s.parts ∙ append_assoc s.type_bytes s.field_bytes left in
    let one = varint_again found.type s.type_bytes (s.field_bytes ++ left) s.type_encoded.encoded in
    let wide = front_width (s.type_bytes ++ (s.field_bytes ++ left)) s.type_bytes (s.field_bytes ++ left) refl in
    let row_closed : list_any is_rest s.row.fields ≡ true → left ≡ [] = λ h. closed (ap is_open_row s.in_table ∙ h) in
    let two = walk_again 1 (length s.type_bytes) s.row.fields [] s.others found.frame.values s.field_bytes left
    (row_is_well found.type s.row s.in_table) row_closed s.fields in
    rw (regrouped, one, s.in_table, wide, two, s.all) refl

-- ---- frames and frames with spans

pub frame_without : (strict : Bool) (found : TypedFrame) (spans : List Span) (bytes : List ℕ)
    → IsFrameAt strict found spans bytes → IsFrame strict found bytes
frame_without strict found spans bytes s = record {
  type_bytes = s.type_bytes;
  field_bytes = s.field_bytes;
  parts = s.parts;
  type_encoded = s.type_encoded;
  row = s.row;
  in_table = s.in_table;
  name = s.name;
  fields = fields_without 1 (length s.type_bytes) s.row.fields [] s.others found.frame.values s.field_bytes s.fields;
}

pub frame_with_spans : (strict : Bool) (found : TypedFrame) (bytes : List ℕ) → IsFrame strict found bytes
    → (spans : List Span) × IsFrameAt strict found spans bytes
frame_with_spans strict found bytes s =
    let with_spans = fields_with_spans 1 (length s.type_bytes) s.row.fields [] found.frame.values s.field_bytes s.fields in (
      span 0 0 (Number found.type ∷ []) (length s.type_bytes) ∷ with_spans.0,
      record {
        type_bytes = s.type_bytes;
        field_bytes = s.field_bytes;
        parts = s.parts;
        type_encoded = s.type_encoded;
        row = s.row;
        in_table = s.in_table;
        name = s.name;
        others = with_spans.0;
        all = refl;
        fields = with_spans.1;
      },
    )

-- A frame's bytes have one list of spans.
pub one_list_at : (strict other : Bool) (one two : TypedFrame) (spans others : List Span) (bytes : List ℕ)
    → IsFrameAt strict one spans bytes → IsFrameAt other two others bytes → spans ≡ others
one_list_at strict other one two spans others bytes s t =
    let a = frame_again_at strict one spans bytes [] s (λ h. refl) in
    let b = frame_again_at other two others bytes [] t (λ h. refl) in
    ap (λ (w : Walked). w.0) (sym a ∙ b)

-- ---- the spans are all bytes in a row

pub fields_in_row : (index start : ℕ) (fields : List Field) (before : List Value) (spans : List Span) (after : List Value)
    (bytes : List ℕ) → AreFieldsAt index start fields before spans after bytes
    → AreInRow start spans (start + length bytes) × AreNumbered index spans
fields_in_row index start [] before spans after bytes s =
    rw (s.0, s.2) (omega arith, tt)
fields_in_row index start (field ∷ fields) before spans after bytes s =
    let others = fields_in_row (index + 1) (start + length s.1) fields (before ++ s.0) s.3 after s.2 s.7 in
    let end : start + length s.1 + length s.2 ≡ start + length bytes = omega (arith, ap length s.4, length-append s.1 s.2) in
    rw (s.6) ((refl, omega arith, subst (AreInRow (start + length s.1) s.3) end others.0), (refl, others.1))

pub frame_in_row : (strict : Bool) (found : TypedFrame) (spans : List Span) (bytes : List ℕ)
    → IsFrameAt strict found spans bytes → AreInRow 0 spans (length bytes) × AreNumbered 0 spans
frame_in_row strict found spans bytes s =
    let others = fields_in_row 1 (length s.type_bytes) s.row.fields [] s.others found.frame.values s.field_bytes s.fields in
    let end : length s.type_bytes + length s.field_bytes ≡ length bytes =
    omega (arith, ap length s.parts, length-append s.type_bytes s.field_bytes) in
    let from : 0 + length s.type_bytes ≡ length s.type_bytes = omega arith in
    rw (s.all) (
      (
        refl,
        omega arith,
        subst (λ (k : ℕ). AreInRow k s.others (length bytes)) (sym from)
            (subst (AreInRow (length s.type_bytes) s.others) end others.0),
      ),
      (refl, others.1),
    )

-- ---- an invalid frame

row_stops_at : (t : ℕ) (bytes front rest : List ℕ) (o : Option Row) (f : Fault) (at : ℕ) → AreBytes rest
    → bytes ≡ front ++ rest → Encodes t front → row_of t ≡ o
    → at ≡ length (fields_walk t (length front) rest o).0
    → (fields_walk t (length front) rest o).1 ≡ Err f
    → IsNoFrameAt bytes (fields_walk t (length front) rest o).0 at f
row_stops_at t bytes front rest None f at fits parts s e here h =
    inr (inl (refl, here, (t, record { front = front; back = rest; parts = parts; encoded = is_any t front s; then = e }), cc))
row_stops_at t bytes front rest (Some r) f at fits parts s e here h =
    let stops = fields_stop_at 1 (length front) r.fields [] rest f at fits (omega (arith, here)) h in
    inr (inr (t, front, rest, (walk_at 1 (length front) r.fields [] rest).0, parts, is_any t front s, (r, e, refl, stops)))

type_stops_at : (bytes : List ℕ) (v : Result (ℕ × List ℕ) Fault) (f : Fault) (at : ℕ) → AreBytes bytes
    → varint_at bytes ≡ v → at ≡ length (type_walk (length bytes) v).0
    → (type_walk (length bytes) v).1 ≡ Err f → IsNoFrameAt bytes (type_walk (length bytes) v).0 at f
type_stops_at bytes (Err d) f at fits h here e =
    let same : d ≡ f = cc in
    let no_front : NoNumber bytes = λ n front back parts v. let again = ap varint_at parts ∙ varint_again n front back v in absurd (cc (again, h)) in
    inl (refl, here, no_front, sym same ∙ varint_fails bytes d h)
type_stops_at bytes (Ok y) f at fits h here e =
    let t = varint_takes bytes y.0 y.1 fits h in
    let wide = front_width bytes t.front y.1 t.split in
    let back_fits = back_bytes t.front y.1 (subst AreBytes t.split fits) in
    let with_spans = subst (λ (n : ℕ). at ≡ length (fields_walk y.0 n y.1 (row_of y.0)).0) wide here in
    let failed = subst (λ (n : ℕ). (fields_walk y.0 n y.1 (row_of y.0)).1 ≡ Err f) wide e in
    subst (λ (n : ℕ). IsNoFrameAt bytes (fields_walk y.0 n y.1 (row_of y.0)).0 at f) (sym wide)
    (row_stops_at y.0 bytes t.front y.1 (row_of y.0) f at back_fits t.split t.is refl with_spans failed)

pub frame_stops_at : (bytes : List ℕ) (f : Fault) (at : ℕ) → AreBytes bytes → at ≡ length (frame_walk bytes).0
    → (frame_walk bytes).1 ≡ Err f → IsNoFrameAt bytes (frame_walk bytes).0 at f
frame_stops_at bytes f at fits here e = type_stops_at bytes (varint_at bytes) f at fits refl here e

pub no_frame_again_at : (bytes : List ℕ) (spans : List Span) (at : ℕ) (reason : Fault) → AreBytes bytes
    → IsNoFrameAt bytes spans at reason → (frame_walk bytes ≡ (spans, Err reason)) × (at ≡ length spans)
no_frame_again_at bytes spans at reason fits (inl s) =
    let failed =
    err_of (varint_at bytes) (λ x h. let t = varint_takes bytes x.0 x.1 fits h in s.2 x.0 t.front x.1 t.split t.is) in
    let why = varint_fails bytes failed.0 failed.1 in
    (rw (failed.1, why, s.0, s.3) refl, rw (s.0, s.1) refl)
no_frame_again_at bytes spans at reason fits (inr (inl s)) =
    let u = s.2.1 in
    let one = varint_again s.2.0 u.front u.back u.encoded.encoded in
    (rw (u.parts, one, u.then, s.0, s.3) refl, rw (s.0, s.1) refl)
no_frame_again_at bytes spans at reason fits (inr (inr s)) =
    let t = s.0 in
    let r = s.6.0 in
    let one = varint_again t s.1 s.2 s.5.encoded in
    let wide = front_width (s.1 ++ s.2) s.1 s.2 refl in
    let back_fits = back_bytes s.1 s.2 (subst AreBytes s.4 fits) in
    let two = walk_stops_again 1 (length s.1) r.fields [] s.3 s.2 at reason back_fits (row_is_well t r s.6.1) s.6.3 in
    (rw (s.4, one, s.6.1, wide, two.0, s.6.2) refl, omega (arith, two.1, ap length s.6.2))

pub one_stop_at : (bytes : List ℕ) (spans others : List Span) (at other : ℕ) (reason fault : Fault) → AreBytes bytes
    → IsNoFrameAt bytes spans at reason → IsNoFrameAt bytes others other fault
    → (spans ≡ others) × (at ≡ other) × (reason ≡ fault)
one_stop_at bytes spans others at other reason fault fits s t =
    let a = no_frame_again_at bytes spans at reason fits s in
    let b = no_frame_again_at bytes others other fault fits t in
    let same : spans ≡ others = ap (λ (w : Walked). w.0) (sym a.0 ∙ b.0) in
    let failed : failure {A = List Value × List ℕ} reason ≡ failure fault = ap (λ (w : Walked). w.1) (sym a.0 ∙ b.0) in
    (same, a.1 ∙ ap length same ∙ sym b.1, cc)

pub no_frame_without : (before : Option ℕ) (bytes : List ℕ) (spans : List Span) (at : ℕ) (reason : Fault) → bytes ≢ []
    → IsNoFrameAt bytes spans at reason → (type : Option ℕ) × IsNoFrame false before bytes type reason
no_frame_without before bytes spans at reason some (inl s) = (before, inl (some, s.2, refl, s.3))
no_frame_without before bytes spans at reason some (inr (inl s)) =
    (Some s.2.0, inr (inr (inl (s.2.0, s.2.1, refl, s.3))))
no_frame_without before bytes spans at reason some (inr (inr s)) =
    let stops = stops_without 1 (length s.1) s.6.0.fields [] s.3 s.2 at reason s.6.3 in (
      Some s.0,
      inr (inr (inr (
        s.0,
        record { front = s.1; back = s.2; parts = s.4; encoded = s.5; then = (s.6.0, s.6.1, stops) },
        refl,
      ))),
    )

pub no_frame_with_spans : (before : Option ℕ) (bytes : List ℕ) (type : Option ℕ) (reason : Fault)
    → IsNoFrame false before bytes type reason → (spans : List Span) × (at : ℕ) × IsNoFrameAt bytes spans at reason
no_frame_with_spans before bytes type reason (inl s) = ([], 0, inl (refl, refl, s.1, s.3))
no_frame_with_spans before bytes type reason (inr (inl s)) = absurd (true_is_not_false (sym s.1.counts))
no_frame_with_spans before bytes type reason (inr (inr (inl s))) = ([], 0, inr (inl (refl, refl, (s.0, s.1), s.3)))
no_frame_with_spans before bytes type reason (inr (inr (inr s))) =
    let u = s.1 in
    let with_spans = stops_with_spans 1 (length u.front) u.then.0.fields [] u.back reason u.then.2 in (
      span 0 0 (Number s.0 ∷ []) (length u.front) ∷ with_spans.0,
      with_spans.1,
      inr (inr (
        s.0,
        u.front,
        u.back,
        with_spans.0,
        u.parts,
        u.encoded,
        (u.then.0, u.then.1, refl, with_spans.2),
      )),
    )

-- ---- the contract of the call

pub last_in_row : (start end : ℕ) (spans : List Span) → AreInRow start spans end → last_end start spans ≡ end
last_in_row start end [] r = r
last_in_row start end (p ∷ ps) r = last_in_row p.end end ps r.2

pub none_ends : (fault : Option Fault) (read : Result (List Value × List ℕ) Fault) → fault ≡ None → EndsAs fault read
    → (x : List Value × List ℕ) × (read ≡ Ok x)
none_ends None (Ok x) e h = (x, refl)
none_ends None (Err d) e h = absurd h
none_ends (Some f) read e h = absurd cc

pub has_spans : (payload : List ℕ) (old new : List Span) (count end : ℕ) (fault : Option Fault) → fault ≡ None
    → AreBytes payload → new ≡ stored 0 (frame_walk payload).0 old → count ≡ length (frame_walk payload).0
    → end ≡ last_end 0 (frame_walk payload).0 → EndsAs fault (frame_walk payload).1
    → HasSpans payload old new count end
has_spans payload old new count end fault none fits there counted ended ends =
    let x = none_ends fault (frame_walk payload).1 none ends in
    let t = frame_takes_at payload x.0 fits x.1 in
    record {
      found = t.found;
      spans = (frame_walk payload).0;
      front = t.front;
      back = x.0.1;
      parts = t.parts;
      frame = t.frame;
      opens = t.opens;
      room = there;
      all = counted;
      stop = ended ∙ last_in_row 0 (length t.front) (frame_walk payload).0
          (frame_in_row false t.found (frame_walk payload).0 t.front t.frame).0;
    }

after_in_row : (index start : ℕ) (field : Field) (fields : List Field) (before : List Value) (bytes : List ℕ)
    (r : Result (List Value × List ℕ) Fault)
    → ((end : ℕ) (seen : List Value) (left : List ℕ)
    → AreInRow end (walk_at (index + 1) end fields seen left).0 (last_end end (walk_at (index + 1) end fields seen left).0))
    → AreInRow start (after_field index start (length bytes) (others_of index fields before) r).0
    (last_end start (after_field index start (length bytes) (others_of index fields before) r).0)
after_in_row index start field fields before bytes (Err e) others = refl
after_in_row index start field fields before bytes (Ok x) others =
    (refl, omega arith, others (start + (length bytes - length x.1)) (before ++ x.0) x.1)

pub walk_in_row : (index start : ℕ) (fields : List Field) (before : List Value) (bytes : List ℕ)
    → AreInRow start (walk_at index start fields before bytes).0 (last_end start (walk_at index start fields before bytes).0)
walk_in_row index start [] before bytes = refl
walk_in_row index start (field ∷ fields) before bytes =
    after_in_row index start field fields before bytes (field_at field before bytes)
    (λ end seen left. walk_in_row (index + 1) end fields seen left)

fields_row : (type width : ℕ) (bytes : List ℕ) (o : Option Row)
    → AreInRow 0 (fields_walk type width bytes o).0 (last_end 0 (fields_walk type width bytes o).0)
fields_row type width bytes None = refl
fields_row type width bytes (Some r) =
    let zero_and : 0 + width ≡ width = omega arith in (
      refl,
      omega arith,
      subst (λ (k : ℕ). AreInRow k (walk_at 1 width r.fields [] bytes).0
          (last_end k (walk_at 1 width r.fields [] bytes).0)) (sym zero_and) (walk_in_row 1 width r.fields [] bytes),
    )

type_row : (total : ℕ) (v : Result (ℕ × List ℕ) Fault)
    → AreInRow 0 (type_walk total v).0 (last_end 0 (type_walk total v).0)
type_row total (Err e) = refl
type_row total (Ok x) = fields_row x.0 (total - length x.1) x.1 (row_of x.0)

frame_row : (bytes : List ℕ) → AreInRow 0 (frame_walk bytes).0 (last_end 0 (frame_walk bytes).0)
frame_row bytes = type_row (length bytes) (varint_at bytes)

pub lacks_spans : (payload : List ℕ) (old new : List Span) (count end : ℕ) (fault : Option Fault)
    → AreBytes payload → new ≡ stored 0 (frame_walk payload).0 old → count ≡ length (frame_walk payload).0
    → end ≡ last_end 0 (frame_walk payload).0 → EndsAs fault (frame_walk payload).1
    → IfSome fault (λ reason. LacksSpans payload old new count end reason)
lacks_spans payload old new count end None fits there counted ended ends = tt
lacks_spans payload old new count end (Some reason) fits there counted ended ends = record {
  spans = (frame_walk payload).0;
  no_frame = frame_stops_at payload reason count fits counted ends;
  room = there;
  all = counted;
  stop = rw (ended) (frame_row payload);
}
