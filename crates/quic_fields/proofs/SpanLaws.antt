-- The spans of fields: what reading finds is what the grammar says, and nothing else is.
use Rattle.std.proofs.Common.{◌≡◌, ℕ, ◌+◌, ◌-◌, true, List, [], ◌∷◌, ◌++◌, length, Ok, Err, Result, refl, sym, ap, subst, ◌∙◌, append_assoc, append-nil, length-append, inl, inr, arith}
use Rattle.std.specs.List.{list_any}
use Rattle.quic_base.specs.Number.{AreBytes}
use Rattle.quic_base.proofs.PublicLaws.{back_bytes}
use Rattle.quic_frame_fields.specs.declared.frame.fault.Fault.{Fault}
use Rattle.quic_frame_fields.specs.Field.{Value, Field, is_rest, AreFields, StopsWithin}
use Rattle.quic_frame_fields.specs.Reading.{field_at}
use Rattle.quic_frame_fields.proofs.Steps.{ok_is, failure, true_is_not_false}
use Rattle.quic_fields.specs.declared.field.Span.{Span}
use Rattle.quic_fields.specs.Spans.{span, AreFieldsAt, StopsWithinAt}
use Rattle.quic_fields.specs.Walk.{Walked, walk_at, after_field}
use Rattle.quic_frame_fields.proofs.Fields.{field_takes, field_again, field_stops, stops_again, rest_takes_all, nothing_left, is_well, both, or_false}

-- ---- fields with spans are fields, and fields have spans

pub fields_without : (index start : ℕ) (fields : List Field) (before : List Value) (spans : List Span) (after : List Value)
    (bytes : List ℕ) → AreFieldsAt index start fields before spans after bytes → AreFields fields before after bytes
fields_without index start [] before spans after bytes s = (s.1, s.2)
fields_without index start (field ∷ fields) before spans after bytes s =
    (s.0, s.1, s.2, s.4, s.5, fields_without (index + 1) (start + length s.1) fields (before ++ s.0) s.3 after s.2 s.7)

pub fields_with_spans : (index start : ℕ) (fields : List Field) (before after : List Value) (bytes : List ℕ)
    → AreFields fields before after bytes → (spans : List Span) × AreFieldsAt index start fields before spans after bytes
fields_with_spans index start [] before after bytes s = ([], (refl, s.0, s.1))
fields_with_spans index start (field ∷ fields) before after bytes s =
    let others = fields_with_spans (index + 1) (start + length s.1) fields (before ++ s.0) after s.2 s.5 in
    (span index start s.0 (length s.1) ∷ others.0, (s.0, s.1, s.2, others.0, s.3, s.4, refl, others.1))

pub stops_without : (index start : ℕ) (fields : List Field) (before : List Value) (spans : List Span) (bytes : List ℕ)
    (at : ℕ) (reason : Fault) → StopsWithinAt index start fields before spans bytes at reason
    → StopsWithin fields before bytes reason
stops_without index start [] before spans bytes at reason s = s
stops_without index start (field ∷ fields) before spans bytes at reason (inl s) = inl s.2
stops_without index start (field ∷ fields) before spans bytes at reason (inr s) =
    inr (s.0, s.1, s.2, s.4, s.5, stops_without (index + 1) (start + length s.1) fields (before ++ s.0) s.3 s.2 at reason s.7)

pub stops_with_spans : (index start : ℕ) (fields : List Field) (before : List Value) (bytes : List ℕ) (reason : Fault)
    → StopsWithin fields before bytes reason
    → (spans : List Span) × (at : ℕ) × StopsWithinAt index start fields before spans bytes at reason
stops_with_spans index start [] before bytes reason s = absurd s
stops_with_spans index start (field ∷ fields) before bytes reason (inl s) = ([], index, inl (refl, refl, s))
stops_with_spans index start (field ∷ fields) before bytes reason (inr s) =
    let others = stops_with_spans (index + 1) (start + length s.1) fields (before ++ s.0) s.2 reason s.5 in
    (span index start s.0 (length s.1) ∷ others.0, others.1, inr (s.0, s.1, s.2, others.0, s.3, s.4, refl, others.2))

-- ---- what is read

-- the width of what is in front
pub front_width : (bytes front back : List ℕ) → bytes ≡ front ++ back → length bytes - length back ≡ length front
front_width bytes front back e = omega (arith, ap length e, length-append front back)

pub walk_again : (index start : ℕ) (fields : List Field) (before : List Value) (spans : List Span) (after : List Value)
    (front left : List ℕ) → is_well fields ≡ true
    → (list_any is_rest fields ≡ true → left ≡ []) → AreFieldsAt index start fields before spans after front
    → walk_at index start fields before (front ++ left) ≡ (spans, Ok (after, left))
walk_again index start [] before spans after front left well closed s = rw (s.0, s.1, s.2) refl
walk_again index start (field ∷ []) before spans after front left well closed s =
    let whole : front ≡ s.1 = s.4 ∙ ap (λ (l : List ℕ). s.1 ++ l) s.7.2 ∙ append-nil s.1 in
    let one = field_again field before s.0 s.1 left (λ opens. closed (or_false (is_rest field) ∙ opens)) s.5 in
    let wide = front_width (s.1 ++ left) s.1 left refl in
    rw (whole, one, wide, s.6, s.7.0, s.7.1) refl
walk_again index start (field ∷ next ∷ fields) before spans after front left well closed s =
    let w = both (is_rest field) (is_well (next ∷ fields)) well in
    let regrouped : front ++ left ≡ s.1 ++ (s.2 ++ left) =
    ap (λ (l : List ℕ). l ++ left) s.4 ∙ append_assoc s.1 s.2 left in
    let one =
    field_again field before s.0 s.1 (s.2 ++ left) (λ opens. absurd (true_is_not_false (sym opens ∙ w.0))) s.5 in
    let others_closed : list_any is_rest (next ∷ fields) ≡ true → left ≡ [] = λ opens. closed (rw w.0 opens) in
    let two = walk_again (index + 1) (start + length s.1) (next ∷ fields) (before ++ s.0) s.3 after s.2 left w.1 others_closed s.7 in
    let wide = front_width (s.1 ++ (s.2 ++ left)) s.1 (s.2 ++ left) refl in
    rw (regrouped, one, wide, two, s.6) refl

pub walk_stops_again : (index start : ℕ) (fields : List Field) (before : List Value) (spans : List Span) (bytes : List ℕ)
    (at : ℕ) (reason : Fault) → AreBytes bytes → is_well fields ≡ true
    → StopsWithinAt index start fields before spans bytes at reason
    → (walk_at index start fields before bytes ≡ (spans, Err reason)) × (at ≡ index + length spans)
walk_stops_again index start [] before spans bytes at reason fits well s = absurd s
walk_stops_again index start (field ∷ fields) before spans bytes at reason fits well (inl s) =
    (rw (stops_again field before bytes reason fits s.2, s.0) refl, omega (arith, s.1, ap length s.0))
walk_stops_again index start (field ∷ []) before spans bytes at reason fits well (inr s) = absurd s.7
walk_stops_again index start (field ∷ next ∷ fields) before spans bytes at reason fits well (inr s) =
    let w = both (is_rest field) (is_well (next ∷ fields)) well in
    let all_fit = subst AreBytes s.4 fits in
    let one = field_again field before s.0 s.1 s.2 (λ opens. absurd (true_is_not_false (sym opens ∙ w.0))) s.5 in
    let two = walk_stops_again (index + 1) (start + length s.1) (next ∷ fields) (before ++ s.0) s.3 s.2 at reason
    (back_bytes s.1 s.2 all_fit) w.1 s.7 in
    let wide = front_width (s.1 ++ s.2) s.1 s.2 refl in
    (rw (s.4, one, wide, two.0, s.6) refl, omega (arith, two.1, ap length s.6))

-- ---- what is read is encoded

pub record TakesAllAt (index start : ℕ) (fields : List Field) (before : List Value) (spans : List Span)
    (after : List Value) (bytes left : List ℕ) : Type 0 where
  pub front : List ℕ
  pub parts : bytes ≡ front ++ left
  pub encoded : AreFieldsAt index start fields before spans after front
  pub opens : list_any is_rest fields ≡ true → left ≡ []

-- what reading the fields after one does
abbrev pub others_of : ℕ → List Field → List Value → ℕ → List Value → List ℕ → Walked
others_of index fields before = λ end values left. walk_at (index + 1) end fields (before ++ values) left

take_one : (index start : ℕ) (field : Field) (fields : List Field) (before : List Value) (bytes : List ℕ)
    (x : List Value × List ℕ) (r : Result (List Value × List ℕ) Fault) → AreBytes bytes → field_at field before bytes ≡ r
    → ((end : ℕ) (seen : List Value) (left : List ℕ) → AreBytes left → (walk_at (index + 1) end fields seen left).1 ≡ Ok x
    → TakesAllAt (index + 1) end fields seen (walk_at (index + 1) end fields seen left).0 x.0 left x.1)
    → (after_field index start (length bytes) (others_of index fields before) r).1 ≡ Ok x
    → TakesAllAt index start (field ∷ fields) before (after_field index start (length bytes) (others_of index fields before) r).0
    x.0 bytes x.1
take_one index start field fields before bytes x (Err d) fits h others e = absurd cc
take_one index start field fields before bytes x (Ok y) fits h others e =
    let t = field_takes field before bytes y fits h in
    let wide = front_width bytes t.front y.1 t.split in
    let n = length bytes - length y.1 in
    let w = walk_at (index + 1) (start + n) fields (before ++ y.0) y.1 in
    let u = others (start + n) (before ++ y.0) y.1 (back_bytes t.front y.1 (subst AreBytes t.split fits)) e in
    record {
      front = t.front ++ u.front;
      parts = t.split ∙ ap (λ (l : List ℕ). t.front ++ l) u.parts ∙ sym (append_assoc t.front u.front x.1);
      encoded = (
        y.0,
        t.front,
        u.front,
        w.0,
        refl,
        t.is,
        ap (λ (k : ℕ). span index start y.0 k ∷ w.0) wide,
        subst (λ (k : ℕ). AreFieldsAt (index + 1) (start + k) fields (before ++ y.0) w.0 x.0 u.front) wide u.encoded,
      );
      opens = nothing_left (is_rest field) (list_any is_rest fields) y.1 u.front x.1 u.parts
          (rest_takes_all field before bytes y h) u.opens;
    }

pub fields_take_at : (index start : ℕ) (fields : List Field) (before : List Value) (bytes : List ℕ)
    (x : List Value × List ℕ) → AreBytes bytes → (walk_at index start fields before bytes).1 ≡ Ok x
    → TakesAllAt index start fields before (walk_at index start fields before bytes).0 x.0 bytes x.1
fields_take_at index start [] before bytes x fits e =
    subst (λ (y : List Value × List ℕ). TakesAllAt index start [] before [] y.0 bytes y.1) (ok_is (before, bytes) x e)
    (record { front = []; parts = refl; encoded = (refl, refl, refl); opens = λ h. absurd cc })
fields_take_at index start (field ∷ fields) before bytes x fits e =
    take_one index start field fields before bytes x (field_at field before bytes) fits refl
    (λ end seen left. fields_take_at (index + 1) end fields seen left x) e

-- ---- what can't be read

stop_one : (index start : ℕ) (field : Field) (fields : List Field) (before : List Value) (bytes : List ℕ)
    (f : Fault) (at : ℕ) (r : Result (List Value × List ℕ) Fault) → AreBytes bytes → field_at field before bytes ≡ r
    → ((end : ℕ) (seen : List Value) (left : List ℕ) → AreBytes left
    → at ≡ index + 1 + length (walk_at (index + 1) end fields seen left).0
    → (walk_at (index + 1) end fields seen left).1 ≡ Err f
    → StopsWithinAt (index + 1) end fields seen (walk_at (index + 1) end fields seen left).0 left at f)
    → at ≡ index + length (after_field index start (length bytes) (others_of index fields before) r).0
    → (after_field index start (length bytes) (others_of index fields before) r).1 ≡ Err f
    → StopsWithinAt index start (field ∷ fields) before
    (after_field index start (length bytes) (others_of index fields before) r).0 bytes at f
stop_one index start field fields before bytes f at (Err d) fits h others here e =
    let same : d ≡ f = cc in
    inl (refl, omega (arith, here), field_stops field before bytes f fits (h ∙ ap failure same))
stop_one index start field fields before bytes f at (Ok y) fits h others here e =
    let t = field_takes field before bytes y fits h in
    let wide = front_width bytes t.front y.1 t.split in
    let n = length bytes - length y.1 in
    let w = walk_at (index + 1) (start + n) fields (before ++ y.0) y.1 in
    let u = others (start + n) (before ++ y.0) y.1 (back_bytes t.front y.1 (subst AreBytes t.split fits)) (omega (arith, here)) e in
    inr (
      y.0,
      t.front,
      y.1,
      w.0,
      t.split,
      t.is,
      ap (λ (k : ℕ). span index start y.0 k ∷ w.0) wide,
      subst (λ (k : ℕ). StopsWithinAt (index + 1) (start + k) fields (before ++ y.0) w.0 y.1 at f) wide u,
    )

pub fields_stop_at : (index start : ℕ) (fields : List Field) (before : List Value) (bytes : List ℕ)
    (f : Fault) (at : ℕ) → AreBytes bytes → at ≡ index + length (walk_at index start fields before bytes).0
    → (walk_at index start fields before bytes).1 ≡ Err f
    → StopsWithinAt index start fields before (walk_at index start fields before bytes).0 bytes at f
fields_stop_at index start [] before bytes f at fits here e = absurd cc
fields_stop_at index start (field ∷ fields) before bytes f at fits here e =
    stop_one index start field fields before bytes f at (field_at field before bytes) fits refl
    (λ end seen left. fields_stop_at (index + 1) end fields seen left f at) here e
