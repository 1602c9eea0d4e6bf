-- The spans of fields: what reading finds is what the grammar says, and nothing else is.
use Rattle.std.proofs.Common.{◌≡◌, ℕ, ◌+◌, ◌-◌, Bool, true, List, [], ◌∷◌, ◌++◌, length, Ok, Err, Result, refl, sym, ap, subst, ◌∙◌, length-append, append_assoc, inl, inr, arith}
use Rattle.quic_base.specs.Number.{AreBytes}
use Rattle.quic_fields.specs.declared.field.Span.{Span}
use Rattle.quic_fields.specs.Spans.{AreInRow, AreNumbered}
use Rattle.quic_fields.specs.Walk.{last_end}
use Rattle.quic_header_decode.specs.Grammar.{HeaderField, HeaderValue, AreHeaderFields}
use Rattle.quic_header_decode.specs.Reading.{DecodeOptions, TakesWithin}
use Rattle.quic_header_decode.specs.Refusal.{Refusal}
use Rattle.quic_header_decode.proofs.FieldLaws.{back_fits}
use Rattle.quic_header_decode.specs.Fields.{Taken}
use Rattle.quic_header_fields.specs.Spans.{span, AreFieldsAt, StopsWithinAt}
use Rattle.quic_header_fields.specs.Walk.{after_field, field_in, walk_at}
use Rattle.quic_header_fields.proofs.FieldsIn.{in_again, in_any, in_found, in_stops, in_refused}
use Rattle.quic_header_fields.proofs.WalkSteps.{others_of}

-- ---- fields with spans are fields, and fields have spans

pub fields_without : (options : DecodeOptions) (index start : ℕ) (fields : List HeaderField) (before : List HeaderValue)
    (spans : List Span) (after : List HeaderValue) (bytes rest : List ℕ)
    → AreFieldsAt true options index start fields before spans after bytes rest
    → AreHeaderFields options fields before after bytes rest
fields_without options index start [] before spans after bytes rest s = (s.1, s.2)
fields_without options index start (field ∷ fields) before spans after bytes rest s = (
  s.0,
  s.2,
  (s.1, s.4, s.5),
  fields_without options (index + 1) (start + length s.1) fields (before ++ s.0) s.3 after s.2 rest s.7,
)

pub fields_with_spans : (options : DecodeOptions) (index start : ℕ) (fields : List HeaderField)
    (before after : List HeaderValue) (bytes rest : List ℕ) → AreHeaderFields options fields before after bytes rest
    → (spans : List Span) × AreFieldsAt true options index start fields before spans after bytes rest
fields_with_spans options index start [] before after bytes rest s = ([], (refl, s.0, s.1))
fields_with_spans options index start (field ∷ fields) before after bytes rest (values, left, (front, split, is), others) =
    let later = fields_with_spans options (index + 1) (start + length front) fields (before ++ values) after left rest others in
    (span index start field values (length front) ∷ later.0, (values, front, left, later.0, split, is, refl, later.1))

-- fields of a known version are those of any version
pub fields_any : (known : Bool) (options : DecodeOptions) (index start : ℕ) (fields : List HeaderField)
    (before : List HeaderValue) (spans : List Span) (after : List HeaderValue) (bytes rest : List ℕ)
    → AreFieldsAt true options index start fields before spans after bytes rest
    → AreFieldsAt known options index start fields before spans after bytes rest
fields_any known options index start [] before spans after bytes rest s = s
fields_any known options index start (field ∷ fields) before spans after bytes rest s = (
  s.0,
  s.1,
  s.2,
  s.3,
  s.4,
  in_any known options field before s.0 s.1 s.2 s.5,
  s.6,
  fields_any known options (index + 1) (start + length s.1) fields (before ++ s.0) s.3 after s.2 rest s.7,
)

-- ---- what is there is read

-- the width of what is in front
front_width : (bytes front back : List ℕ) → bytes ≡ front ++ back → length bytes - length back ≡ length front
front_width bytes front back e = omega (arith, ap length e, length-append front back)

pub walk_again : (known : Bool) (options : DecodeOptions) (index start : ℕ) (fields : List HeaderField)
    (before : List HeaderValue) (spans : List Span) (after : List HeaderValue) (bytes rest : List ℕ)
    → AreFieldsAt known options index start fields before spans after bytes rest
    → walk_at known options index start fields before bytes ≡ (spans, Ok (after, rest))
walk_again known options index start [] before spans after bytes rest s = rw (s.0, s.1, s.2) refl
walk_again known options index start (field ∷ fields) before spans after bytes rest s =
    let one = in_again known options field before s.0 s.1 s.2 s.5 in
    let wide = front_width (s.1 ++ s.2) s.1 s.2 refl in
    let two = walk_again known options (index + 1) (start + length s.1) fields (before ++ s.0) s.3 after s.2 rest s.7 in
    rw (s.4, one, wide, two, s.6) refl

pub walk_stops_again : (known : Bool) (options : DecodeOptions) (index start : ℕ) (fields : List HeaderField)
    (before : List HeaderValue) (spans : List Span) (bytes : List ℕ) (at : ℕ) (e : Refusal) → AreBytes bytes
    → TakesWithin options → StopsWithinAt known options index start fields before spans bytes at e
    → (walk_at known options index start fields before bytes ≡ (spans, Err e)) × (at ≡ index + length spans)
walk_stops_again known options index start [] before spans bytes at e fits takes s = absurd s
walk_stops_again known options index start (field ∷ fields) before spans bytes at e fits takes (inl s) = (
  rw (in_refused known options field before bytes e fits takes s.2, s.0) refl,
  omega (arith, s.1, ap length s.0),
)
walk_stops_again known options index start (field ∷ fields) before spans bytes at e fits takes (inr s) =
    let one = in_again known options field before s.0 s.1 s.2 s.5 in
    let wide = front_width (s.1 ++ s.2) s.1 s.2 refl in
    let two = walk_stops_again known options (index + 1) (start + length s.1) fields (before ++ s.0) s.3 s.2 at e
    (back_fits bytes s.1 s.2 fits s.4) takes s.7 in
    (rw (s.4, one, wide, two.0, s.6) refl, omega (arith, two.1, ap length s.6))

-- ---- what can't be read

stop_one : (known : Bool) (options : DecodeOptions) (index start : ℕ) (field : HeaderField) (fields : List HeaderField)
    (before : List HeaderValue) (bytes : List ℕ) (e : Refusal) (at : ℕ) (r : Result Taken Refusal) → AreBytes bytes
    → TakesWithin options → field_in known options field before bytes ≡ r
    → ((end : ℕ) (seen : List HeaderValue) (left : List ℕ) → AreBytes left
    → at ≡ index + 1 + length (walk_at known options (index + 1) end fields seen left).0
    → (walk_at known options (index + 1) end fields seen left).1 ≡ Err e
    → StopsWithinAt known options (index + 1) end fields seen (walk_at known options (index + 1) end fields seen left).0 left
    at e)
    → at ≡ index + length (after_field index start field (length bytes) (others_of known options index fields before) r).0
    → (after_field index start field (length bytes) (others_of known options index fields before) r).1 ≡ Err e
    → StopsWithinAt known options index start (field ∷ fields) before
    (after_field index start field (length bytes) (others_of known options index fields before) r).0 bytes at e
stop_one known options index start field fields before bytes e at (Err d) fits takes h others here failed =
    inl (refl, omega (arith, here), in_stops known options field before bytes e (h ∙ failed))
stop_one known options index start field fields before bytes e at (Ok y) fits takes h others here failed =
    let t = in_found known options field before y.0 bytes y.1 fits takes h in
    let wide = front_width bytes t.front y.1 t.split in
    let n = length bytes - length y.1 in
    let w = walk_at known options (index + 1) (start + n) fields (before ++ y.0) y.1 in
    let u = others (start + n) (before ++ y.0) y.1 (back_fits bytes t.front y.1 fits t.split) (omega (arith, here)) failed in
    inr (
      y.0,
      t.front,
      y.1,
      w.0,
      t.split,
      t.is,
      ap (λ (k : ℕ). span index start field y.0 k ∷ w.0) wide,
      subst (λ (k : ℕ). StopsWithinAt known options (index + 1) (start + k) fields (before ++ y.0) w.0 y.1 at e) wide u,
    )

pub walk_stops : (known : Bool) (options : DecodeOptions) (index start : ℕ) (fields : List HeaderField)
    (before : List HeaderValue) (bytes : List ℕ) (e : Refusal) (at : ℕ) → AreBytes bytes → TakesWithin options
    → at ≡ index + length (walk_at known options index start fields before bytes).0
    → (walk_at known options index start fields before bytes).1 ≡ Err e
    → StopsWithinAt known options index start fields before (walk_at known options index start fields before bytes).0 bytes
    at e
walk_stops known options index start [] before bytes e at fits takes here h = absurd cc
walk_stops known options index start (field ∷ fields) before bytes e at fits takes here h =
    stop_one known options index start field fields before bytes e at (field_in known options field before bytes) fits takes refl
    (λ end seen left left_fits there failed. walk_stops known options (index + 1) end fields seen left e at left_fits takes there failed)
    here h

-- ---- spans in a row

pub fields_in_row : (known : Bool) (options : DecodeOptions) (index start : ℕ) (fields : List HeaderField)
    (before : List HeaderValue) (spans : List Span) (after : List HeaderValue) (bytes rest : List ℕ)
    → AreFieldsAt known options index start fields before spans after bytes rest
    → (front : List ℕ) × (bytes ≡ front ++ rest) × AreInRow start spans (start + length front) × AreNumbered index spans
fields_in_row known options index start [] before spans after bytes rest s =
    ([], s.2, rw (s.0) (omega arith), rw (s.0) tt)
fields_in_row known options index start (field ∷ fields) before spans after bytes rest s =
    let others = fields_in_row known options (index + 1) (start + length s.1) fields (before ++ s.0) s.3 after s.2 rest s.7 in
    let end : start + length s.1 + length others.0 ≡ start + length (s.1 ++ others.0) = omega (arith, length-append s.1 others.0) in (
      s.1 ++ others.0,
      s.4 ∙ ap (λ (l : List ℕ). s.1 ++ l) others.1 ∙ sym (append_assoc s.1 others.0 rest),
      rw (s.6) (refl, omega arith, subst (AreInRow (start + length s.1) s.3) end others.2),
      rw (s.6) (refl, others.3),
    )

after_in_row : (known : Bool) (options : DecodeOptions) (index start : ℕ) (field : HeaderField) (fields : List HeaderField)
    (before : List HeaderValue) (bytes : List ℕ) (r : Result Taken Refusal)
    → ((end : ℕ) (seen : List HeaderValue) (left : List ℕ)
    → AreInRow end (walk_at known options (index + 1) end fields seen left).0
    (last_end end (walk_at known options (index + 1) end fields seen left).0))
    → AreInRow start (after_field index start field (length bytes) (others_of known options index fields before) r).0
    (last_end start (after_field index start field (length bytes) (others_of known options index fields before) r).0)
after_in_row known options index start field fields before bytes (Err e) others = refl
after_in_row known options index start field fields before bytes (Ok x) others =
    (refl, omega arith, others (start + (length bytes - length x.1)) (before ++ x.0) x.1)

pub walk_in_row : (known : Bool) (options : DecodeOptions) (index start : ℕ) (fields : List HeaderField)
    (before : List HeaderValue) (bytes : List ℕ)
    → AreInRow start (walk_at known options index start fields before bytes).0
    (last_end start (walk_at known options index start fields before bytes).0)
walk_in_row known options index start [] before bytes = refl
walk_in_row known options index start (field ∷ fields) before bytes =
    after_in_row known options index start field fields before bytes (field_in known options field before bytes)
    (λ end seen left. walk_in_row known options (index + 1) end fields seen left)

pub last_in_row : (start end : ℕ) (spans : List Span) → AreInRow start spans end → last_end start spans ≡ end
last_in_row start end [] r = r
last_in_row start end (p ∷ ps) r = last_in_row p.end end ps r.2
