-- What reading the front finds inside the field at fault is what the grammar says of that field; in a frame it is
-- nothing.
use Rattle.std.proofs.Common.{◌≡◌, ℕ, suc, ◌+◌, ◌-◌, ◌≤◌, true, List, [], ◌∷◌, ◌++◌, length, take, drop, Bool, Ok, Err, refl, sym, ap, subst, ◌∙◌, append_assoc, append-nil, inl, inr, arith}
use Rattle.std.specs.List.{list_any}
use Rattle.std.proofs.Math.Seq.{drop-append-add}
use Rattle.std.proofs.lemmas.List.{take-append-drop}
use Rattle.quic_base.specs.Number.{AreBytes}
use Rattle.quic_base.proofs.PublicLaws.{back_bytes}
use Rattle.quic_frame_fields.specs.declared.frame.fault.Fault.{Fault}
use Rattle.quic_frame_fields.specs.Field.{Value, Field, is_rest, Stops}
use Rattle.quic_frame_fields.specs.Payload.{TypedFrame}
use Rattle.quic_frame_fields.specs.Reading.{varint_at}
use Rattle.quic_frame_fields.specs.Table.{is_open, row_of}
use Rattle.quic_frame_fields.proofs.Fields.{field_again, stops_again, is_well, both, or_false}
use Rattle.quic_frame_fields.proofs.Rows.{row_is_well}
use Rattle.quic_frame_fields.proofs.Steps.{true_is_not_false}
use Rattle.quic_frame_fields.proofs.Varints.{varint_again}
use Rattle.quic_fields.specs.declared.field.Span.{Span}
use Rattle.quic_fields.specs.Inside.{inside, stop_after_type, stop_at, stop_in_frame, stop_in_row}
use Rattle.quic_fields.specs.Spans.{span, AreFieldsAt, AreInRow, IsFrameAt, IsNoFrameAt, StopsWithinAt}
use Rattle.quic_fields.specs.Stopping.{StopsAtField, StopsInside}
use Rattle.quic_fields.proofs.Stopping.{no_number, stops_inside}
use Rattle.quic_fields.proofs.FrameWalks.{is_open_row}
use Rattle.quic_fields.proofs.SpanLaws.{walk_stops_again}

-- ---- the field at fault

row_end : (start end : ℕ) (spans : List Span) → AreInRow start spans end → start ≤ end
row_end start end [] r = omega (arith, r)
row_end start end (p ∷ ps) r = omega (arith, r.0, r.1, row_end p.end end ps r.2)

record StopsThere (fields : List Field) (before : List Value) (bytes : List ℕ) (far : ℕ) (reason : Fault) : Type 0 where
  pub field : Field
  pub values : List Value
  pub stops : Stops field values (drop far bytes) reason
  pub same : stop_at fields before bytes ≡ inside field values (drop far bytes)

stops_there : (index start : ℕ) (fields : List Field) (before : List Value) (spans : List Span) (bytes : List ℕ)
    (at end : ℕ) (reason : Fault) → AreBytes bytes → is_well fields ≡ true
    → StopsWithinAt index start fields before spans bytes at reason → AreInRow start spans end
    → StopsThere fields before bytes (end - start) reason
stops_there index start [] before spans bytes at end reason fits well s row = absurd s
stops_there index start (field ∷ fields) before spans bytes at end reason fits well (inl s) row =
    let here : start ≡ end = subst (λ l. AreInRow start l end) s.0 row in
    let none : end - start ≡ 0 = omega (arith, here) in
    rw none (record {
      field = field;
      values = before;
      stops = s.2;
      same = rw (stops_again field before bytes reason fits s.2) refl;
    })
stops_there index start (field ∷ []) before spans bytes at end reason fits well (inr s) row = absurd s.7
stops_there index start (field ∷ next ∷ fields) before spans bytes at end reason fits well (inr s) row =
    let w = both (is_rest field) (is_well (next ∷ fields)) well in
    let back_fits = back_bytes s.1 s.2 (subst AreBytes s.4 fits) in
    let one = field_again field before s.0 s.1 s.2 (λ opens. absurd (true_is_not_false (sym opens ∙ w.0))) s.5 in
    let middle = start + length s.1 in
    let here : AreInRow start (span index start s.0 (length s.1) ∷ s.3) end = subst (λ l. AreInRow start l end) s.6 row in
    let others = stops_there (index + 1) middle (next ∷ fields) (before ++ s.0) s.3 s.2 at end reason back_fits w.1 s.7 here.2 in
    let far : end - start ≡ length s.1 + (end - middle) = omega (arith, row_end middle end s.3 here.2) in
    let same : drop (end - start) bytes ≡ drop (end - middle) s.2 =
    ap (λ (n : ℕ). drop n bytes) far ∙ ap (drop (length s.1 + (end - middle))) s.4
    ∙ drop-append-add s.1 s.2 (end - middle) in
    let reads : stop_at (field ∷ next ∷ fields) before bytes ≡ stop_at (next ∷ fields) (before ++ s.0) s.2 =
    rw (s.4, one) refl in
    record {
      field = others.field;
      values = others.values;
      stops = subst (λ l. Stops others.field others.values l reason) (sym same) others.stops;
      same = reads ∙ others.same ∙ ap (inside others.field others.values) (sym same);
    }

pub front_stops : (bytes : List ℕ) (spans : List Span) (at end : ℕ) (reason : Fault) → AreBytes bytes
    → IsNoFrameAt bytes spans at reason → AreInRow 0 spans end → StopsAtField bytes at end reason (stop_in_frame bytes)
front_stops bytes spans at end reason fits (inl s) row = rw (s.1) (ap stop_after_type (no_number bytes fits s.2))
front_stops bytes spans at end reason fits (inr (inl s)) row =
    let u = s.2.1 in
    let one = varint_again s.2.0 u.front u.back u.encoded.encoded in
    rw (s.1) (rw (u.parts, one, u.then) refl)
front_stops bytes spans at end reason fits (inr (inr s)) row =
    let r = s.6.0 in
    let one = varint_again s.0 s.1 s.2 s.5.encoded in
    let back_fits = back_bytes s.1 s.2 (subst AreBytes s.4 fits) in
    let well = row_is_well s.0 r s.6.1 in
    let here = subst (λ l. AreInRow 0 l end) s.6.2 row in
    let from : 0 + length s.1 ≡ length s.1 = omega arith in
    let others : AreInRow (length s.1) s.3 end = subst (λ (k : ℕ). AreInRow k s.3 end) from here.2 in
    let there = stops_there 1 (length s.1) r.fields [] s.3 s.2 at end reason back_fits well s.6.3 others in
    let again = walk_stops_again 1 (length s.1) r.fields [] s.3 s.2 at reason back_fits well s.6.3 in
    let far : end ≡ length s.1 + (end - length s.1) = omega (arith, row_end (length s.1) end s.3 others) in
    let rest : drop end bytes ≡ drop (end - length s.1) s.2 =
    ap (λ (n : ℕ). drop n bytes) far ∙ ap (drop (length s.1 + (end - length s.1))) s.4
    ∙ drop-append-add s.1 s.2 (end - length s.1) in
    let reads : stop_in_frame bytes ≡ stop_at r.fields [] s.2 = rw (s.4, one, s.6.1) refl in
    let same : stop_in_frame bytes ≡ inside there.field there.values (drop end bytes) =
    reads ∙ there.same ∙ ap (inside there.field there.values) (sym rest) in
    let stops = subst (λ l. Stops there.field there.values l reason) (sym rest) there.stops in
    let found = stops_inside there.field there.values (drop end bytes) reason
    (back_bytes (take end bytes) (drop end bytes) (subst AreBytes (sym (take-append-drop end bytes)) fits)) stops in
    let more : at ≡ suc (length s.3) = omega (arith, again.1) in
    rw more (there.field, there.values, stops, subst (StopsInside there.field there.values (drop end bytes) reason) (sym same) found)

-- ---- in a frame nowhere

stops_nowhere : (index start : ℕ) (fields : List Field) (before : List Value) (spans : List Span) (after : List Value)
    (front left : List ℕ) → is_well fields ≡ true → (list_any is_rest fields ≡ true → left ≡ [])
    → AreFieldsAt index start fields before spans after front → stop_at fields before (front ++ left) ≡ (0, 0)
stops_nowhere index start [] before spans after front left well closed s = refl
stops_nowhere index start (field ∷ []) before spans after front left well closed s =
    let whole : front ≡ s.1 = s.4 ∙ ap (λ (l : List ℕ). s.1 ++ l) s.7.2 ∙ append-nil s.1 in
    let one = field_again field before s.0 s.1 left (λ opens. closed (or_false (is_rest field) ∙ opens)) s.5 in
    rw (whole, one) refl
stops_nowhere index start (field ∷ next ∷ fields) before spans after front left well closed s =
    let w = both (is_rest field) (is_well (next ∷ fields)) well in
    let regrouped : front ++ left ≡ s.1 ++ (s.2 ++ left) =
    ap (λ (l : List ℕ). l ++ left) s.4 ∙ append_assoc s.1 s.2 left in
    let one =
    field_again field before s.0 s.1 (s.2 ++ left) (λ opens. absurd (true_is_not_false (sym opens ∙ w.0))) s.5 in
    let others_closed : list_any is_rest (next ∷ fields) ≡ true → left ≡ [] = λ opens. closed (rw w.0 opens) in
    let two = stops_nowhere (index + 1) (start + length s.1) (next ∷ fields) (before ++ s.0) s.3 after s.2 left w.1 others_closed s.7 in
    rw (regrouped, one) two

pub frame_stops_nowhere : (strict : Bool) (found : TypedFrame) (spans : List Span) (front left : List ℕ)
    → IsFrameAt strict found spans front → (is_open found.type ≡ true → left ≡ [])
    → stop_in_frame (front ++ left) ≡ (0, 0)
frame_stops_nowhere strict found spans front left s closed =
    let regrouped : front ++ left ≡ s.type_bytes ++ (s.field_bytes ++ left) =
    ap (λ (l : List ℕ). l ++ left) s.parts ∙ append_assoc s.type_bytes s.field_bytes left in
    let one = varint_again found.type s.type_bytes (s.field_bytes ++ left) s.type_encoded.encoded in
    let row_closed : list_any is_rest s.row.fields ≡ true → left ≡ [] = λ h. closed (ap is_open_row s.in_table ∙ h) in
    let two = stops_nowhere 1 (length s.type_bytes) s.row.fields [] s.others found.frame.values s.field_bytes left
    (row_is_well found.type s.row s.in_table) row_closed s.fields in
    rw (regrouped, one, s.in_table) two
