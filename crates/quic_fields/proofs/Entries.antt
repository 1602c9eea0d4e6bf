-- The entry of a transport parameter.
use Rattle.std.proofs.Common.{◌≡◌, ℕ, List, [], ◌∷◌, ◌++◌, ◌+◌, length, refl, sym, ap, subst, ◌∙◌, append-nil, arith}
use Rattle.std.specs.Prelude.{Option, Some, None, IfSome}
use Rattle.quic_base.specs.Codec.{Follows}
use Rattle.quic_base.specs.Number.{AreBytes}
use Rattle.quic_base.specs.Varint.{Encodes}
use Rattle.quic_frame_fields.specs.declared.frame.fault.Fault.{Fault}
use Rattle.quic_frame_fields.specs.Field.{Value, Number, Bytes}
use Rattle.quic_fields.specs.declared.field.Span.{Span}
use Rattle.quic_fields.specs.Entry.{entry_row, IsEntryAt, entry_walk, HasEntry, LacksEntry}
use Rattle.quic_fields.specs.Spans.{AreFieldsAt}
use Rattle.quic_fields.specs.Walk.{Walked, stored, last_end, EndsAs}
use Rattle.quic_fields.proofs.SpanLaws.{fields_take_at, fields_stop_at, fields_with_spans, walk_again}
use Rattle.quic_fields.proofs.FrameWalks.{last_in_row, none_ends, walk_in_row, fields_in_row}

-- the values of an entry's fields are a number and bytes
record EntryValues (spans : List Span) (after : List Value) (front : List ℕ) : Type 0 where
  number : ℕ
  value : List ℕ
  entry : IsEntryAt number value spans front

values_of : (spans : List Span) (after : List Value) (front : List ℕ) → AreFieldsAt 0 0 entry_row [] spans after front
    → EntryValues spans after front
values_of spans after front s =
    let t = s.7 in
    let all : after ≡ Number s.5.0 ∷ Bytes t.5.1 ∷ [] = t.7.1 ∙ rw (s.5.1, t.5.2) refl in
    record {
      number = s.5.0;
      value = t.5.1;
      entry = subst (λ (v : List Value). AreFieldsAt 0 0 entry_row [] spans v front) all s;
    }

pub has_entry : (list : List ℕ) (old new : List Span) (count end : ℕ) (fault : Option Fault) → fault ≡ None
    → AreBytes list → new ≡ stored 0 (entry_walk list).0 old → count ≡ 0 + length (entry_walk list).0
    → end ≡ last_end 0 (entry_walk list).0 → EndsAs fault (entry_walk list).1
    → HasEntry list old new count end
has_entry list old new count end fault none fits there counted ended ends =
    let x = none_ends fault (entry_walk list).1 none ends in
    let t = fields_take_at 0 0 entry_row [] list x.0 fits x.1 in
    let v = values_of (entry_walk list).0 x.0.0 t.front t.encoded in
    record {
      number = v.number;
      value = v.value;
      spans = (entry_walk list).0;
      front = t.front;
      back = x.0.1;
      parts = t.parts;
      entry = v.entry;
      room = there;
      all = omega (arith, counted);
      stop = ended ∙ last_in_row 0 (0 + length t.front) (entry_walk list).0
          (fields_in_row 0 0 entry_row [] (entry_walk list).0 x.0.0 t.front t.encoded).0 ∙ omega arith;
    }

pub lacks_entry : (list : List ℕ) (old new : List Span) (count end : ℕ) (fault : Option Fault)
    → AreBytes list → new ≡ stored 0 (entry_walk list).0 old → count ≡ 0 + length (entry_walk list).0
    → end ≡ last_end 0 (entry_walk list).0 → EndsAs fault (entry_walk list).1
    → IfSome fault (λ reason. LacksEntry list old new count end reason)
lacks_entry list old new count end None fits there counted ended ends = tt
lacks_entry list old new count end (Some reason) fits there counted ended ends = record {
  spans = (entry_walk list).0;
  no_entry = fields_stop_at 0 0 entry_row [] list reason count fits counted ends;
  room = there;
  all = omega (arith, counted);
  stop = rw (ended) (walk_in_row 0 0 entry_row [] list);
}

-- ---- the grammar's entry

numbers_are : (n a : ℕ) (v b : List ℕ) → (Number n ∷ Bytes v ∷ []) ≡ (Number a ∷ Bytes b ∷ []) → (n ≡ a) × (v ≡ b)
numbers_are n a v b e = (cc, cc)

pub entry_is : (number : ℕ) (value : List ℕ) (spans : List Span) (bytes : List ℕ) → IsEntryAt number value spans bytes
    → Follows (Encodes number) (Follows (Encodes (length value)) (λ x. x ≡ value)) bytes
entry_is number value spans bytes s =
    let t = s.7 in
    let all : (Number number ∷ Bytes value ∷ []) ≡ (Number s.5.0 ∷ Bytes t.5.1 ∷ []) = t.7.1 ∙ rw (s.5.1, t.5.2) refl in
    let same = numbers_are number s.5.0 value t.5.1 all in
    let whole : t.1 ≡ s.2 = sym (t.4 ∙ ap (λ (l : List ℕ). t.1 ++ l) t.7.2 ∙ append-nil t.1) in
    record {
      front = s.1;
      back = s.2;
      whole = s.4;
      first = subst (λ (n : ℕ). Encodes n s.1) (sym same.0) s.5.2;
      second = record {
        front = t.5.0;
        back = t.5.1;
        whole = sym whole ∙ t.5.4;
        first = subst (λ (l : List ℕ). Encodes (length l) t.5.0) (sym same.1) t.5.3;
        second = sym same.1;
      };
    }

pub entry_with_spans : (number : ℕ) (value : List ℕ) (bytes : List ℕ)
    → Follows (Encodes number) (Follows (Encodes (length value)) (λ x. x ≡ value)) bytes
    → (spans : List Span) × IsEntryAt number value spans bytes
entry_with_spans number value bytes f =
    let s = f.second in
    fields_with_spans 0 0 entry_row [] (Number number ∷ Bytes value ∷ []) bytes (
      Number number ∷ [],
      f.front,
      f.back,
      f.whole,
      (number, refl, f.first),
      (
        Bytes value ∷ [],
        f.back,
        [],
        sym (append-nil f.back),
        (s.front, value, refl, s.first, s.whole ∙ ap (λ (l : List ℕ). s.front ++ l) s.second),
        (refl, refl),
      ),
    )

pub one_entry_at : (number other : ℕ) (value second : List ℕ) (spans others : List Span) (bytes : List ℕ)
    → IsEntryAt number value spans bytes → IsEntryAt other second others bytes → spans ≡ others
one_entry_at number other value second spans others bytes s t =
    let a = walk_again 0 0 entry_row [] spans (Number number ∷ Bytes value ∷ []) bytes [] refl (λ h. refl) s in
    let b = walk_again 0 0 entry_row [] others (Number other ∷ Bytes second ∷ []) bytes [] refl (λ h. refl) t in
    ap (λ (w : Walked). w.0) (sym a ∙ b)
