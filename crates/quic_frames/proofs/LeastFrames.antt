-- The shortest encoding of each frame, as the last of its payload or not: it is one, and no other is as short.
use Rattle.std.proofs.Common.{◌≡◌, ℕ, ◌+◌, ◌^◌, ◌<◌, ◌≤◌, Bool, true, false, eqb, cond, List, [], ◌∷◌, ◌++◌, length, Option, Some, refl, sym, ap, subst, ◌∙◌, inl, inr, arith}
use Rattle.std.specs.Prelude.{⊤, ◌⊎◌, not}
use Rattle.std.specs.Map.{lookup}
use Rattle.std.proofs.lemmas.List.{length-append, append-nil}
use Rattle.std.proofs.lemmas.Bool.Decides.{nat_tests}
use Rattle.quic_base.specs.Varint.{Encodes, shortest_varint, size}
use Rattle.quic_base.proofs.PublicLaws.{shortest_encodes, length-short, encoded_bound}
use Rattle.quic_base.specs.declared.ids.Dir.{Dir}
use Rattle.quic_base.specs.declared.ids.Dir.TheVariants.{Bi, Uni}
use Rattle.quic_base.specs.Ids.{dir_number}
use Rattle.quic_frame_fields.specs.Field.{Value, Number, Bytes, IsField, AreFields}
use Rattle.quic_frame_fields.specs.Table.{Name, Ack, Stream, Datagram, MaxStreams, StreamsBlocked, Row, rows, row_of, is_open, offset_field, data_field, stream_row, datagram_row, streams_row, ack_row, ack_ecn_row}
use Rattle.quic_frame_fields.specs.Payload.{Meaning, TypedFrame, IsFrame}
use Rattle.quic_frame_fields.specs.Parts.{frame_of, flag, named_type}
use Rattle.quic_frame_fields.specs.Shortest.{shortest_fields, shortest_row, written_type, shortest_frame}
use Rattle.quic_frames.specs.Least.{AreOrExceed, as_written}
use Rattle.quic_frame_fields.proofs.Steps.{true_is_not_false}
use Rattle.quic_frame_fields.proofs.Varints.{varint_some}
use Rattle.quic_frames.proofs.LeastFields.{both_least, at_most, number_least, AllFit, fields_encoded, fields_least}

-- The type has a row of the frame's name, and the frame's values fit its fields. A frame that takes all that is left
-- is the last.
pub record FitsRow (last : Bool) (t : ℕ) (frame : Meaning) : Type 0 where
  pub small : t < 2 ^ 62
  pub closed : is_open t ≡ true → last ≡ true
  pub row : Row
  pub in_table : row_of t ≡ Some row
  pub name : frame.name ≡ row.name
  pub fields : AllFit row.fields [] frame.values

-- A frame that fits the row of the type by which it is written is encoded by its shortest encoding.
pub frame_encoded : (strict last : Bool) (frame : Meaning)
    → FitsRow last (written_type last frame.name frame.values) frame
    → IsFrame strict (as_written last frame) (shortest_frame last frame)
unfolding shortest_frame
frame_encoded strict last frame f =
    let t = written_type last frame.name frame.values in
    let fields = fields_encoded f.row.fields [] frame.values f.fields in
    record {
      type_bytes = shortest_varint t;
      field_bytes = shortest_row (row_of t) frame.values;
      parts = refl;
      type_encoded = record { encoded = shortest_encodes t f.small; shortest = λ _. refl };
      row = f.row;
      in_table = f.in_table;
      name = f.name;
      fields = subst (λ (r : Option Row). AreFields f.row.fields [] frame.values (shortest_row r frame.values)) (sym f.in_table) fields;
    }

-- ---- the rows of the table

-- P holds of each of these rows.
abbrev Each : (ℕ → Row → Type 0) → List (ℕ × Row) → Type 0
Each P [] = ⊤
Each P (entry ∷ entries) = P entry.0 entry.1 × Each P entries

found_row : (P : ℕ → Row → Type 0) (t : ℕ) (r : Row) (entries : List (ℕ × Row)) → Each P entries
    → lookup (λ u. eqb t u) entries ≡ Some r → P t r
found_row P t r [] each e = absurd cc
found_row P t r (entry ∷ entries) each e = by_test (eqb t entry.0) refl e (found_row P t r entries each.1)
  where
    by_test : (b : Bool) → eqb t entry.0 ≡ b → cond b (Some entry.1) (lookup (λ u. eqb t u) entries) ≡ Some r
        → (lookup (λ u. eqb t u) entries ≡ Some r → P t r) → P t r
    by_test true same here others =
        let type_is : entry.0 ≡ t = grind (arith, nat_tests) in
        let row_is : entry.1 ≡ r = cc in
        subst (λ (x : Row). P t x) row_is (subst (λ (u : ℕ). P u entry.1) type_is each.0)
    by_test false same here others = others here

-- ---- what is shown of each row

pub record LeastFrame (last : Bool) (frame : Meaning) (bytes : List ℕ) : Type 0 where
  pub fits : FitsRow last (written_type last frame.name frame.values) frame
  pub least : AreOrExceed bytes (shortest_frame last frame)

-- bytes of a frame of this type, which is the last if it takes all that is left
record Stands (last : Bool) (t : ℕ) (r : Row) (values : List Value) (type_bytes field_bytes : List ℕ) : Type 0 where
  type_encoded : Encodes t type_bytes
  in_table : row_of t ≡ Some r
  fields : AreFields r.fields [] values field_bytes
  closed : is_open t ≡ true → last ≡ true

abbrev IsLeastRow : ℕ → Row → Type 0
IsLeastRow t r =
    (last : Bool) (values : List Value) (type_bytes field_bytes : List ℕ)
    → Stands last t r values type_bytes field_bytes → LeastFrame last (frame_of r.name values)
    (type_bytes ++ field_bytes)

-- a frame that has the type by which it is written
same_type : (last : Bool) (t : ℕ) (r : Row) (values : List Value) (type_bytes field_bytes : List ℕ)
    → Stands last t r values type_bytes field_bytes → written_type last r.name values ≡ t
    → LeastFrame last (frame_of r.name values) (type_bytes ++ field_bytes)
unfolding shortest_frame
same_type last t r values type_bytes field_bytes s e =
    let a = fields_least r.fields [] values field_bytes s.fields in
    let n = number_least t type_bytes s.type_encoded in
    let least : AreOrExceed field_bytes (shortest_fields r.fields values) =
    subst (λ (v : List Value). AreOrExceed field_bytes (shortest_fields r.fields v)) (sym a.grown) a.least in
    let fits : AllFit r.fields [] values = subst (AllFit r.fields []) (sym a.grown) a.fits in
    let whole : shortest_frame last (frame_of r.name values) ≡ shortest_varint t ++ shortest_fields r.fields values =
    ap (λ (u : ℕ). shortest_varint u ++ shortest_row (row_of u) values) e
    ∙ ap (λ (o : Option Row). shortest_varint t ++ shortest_row o values) s.in_table in
    record {
      fits = subst (λ (u : ℕ). FitsRow last u (frame_of r.name values)) (sym e)
          (record {
            small = (encoded_bound t type_bytes s.type_encoded).0;
            closed = s.closed;
            row = r;
            in_table = s.in_table;
            name = refl;
            fields = fits;
          });
      least = subst (AreOrExceed (type_bytes ++ field_bytes)) (sym whole)
          (both_least (shortest_varint t) (shortest_fields r.fields values) type_bytes field_bytes n.1 least);
    }

-- a type of one byte, whose frames take all that is left if they are the last
record HasRow (last : Bool) (t : ℕ) (r : Row) : Type 0 where
  in_table : row_of t ≡ Some r
  opens : is_open t ≡ last
  small : t < 2 ^ 62
  one_byte : size t ≡ 1

fits_row : (last : Bool) (t : ℕ) (r : Row) (values : List Value) → HasRow last t r → AllFit r.fields [] values
    → FitsRow last t (frame_of r.name values)
fits_row last t r values h fields =
    record { small = h.small; closed = λ opens. sym h.opens ∙ opens; row = r; in_table = h.in_table; name = refl; fields = fields }

-- a frame that is written with another type, with which its fields are shorter
other_type : (last : Bool) (t : ℕ) (r : Row) (values : List Value) (type_bytes field_bytes : List ℕ)
    → written_type last r.name values ≡ t → HasRow last t r → AllFit r.fields [] values
    → 0 < length type_bytes → length (shortest_fields r.fields values) < length field_bytes
    → LeastFrame last (frame_of r.name values) (type_bytes ++ field_bytes)
unfolding shortest_frame
other_type last t r values type_bytes field_bytes e h fields some lt =
    let whole : shortest_frame last (frame_of r.name values) ≡ shortest_varint t ++ shortest_fields r.fields values =
    ap (λ (u : ℕ). shortest_varint u ++ shortest_row (row_of u) values) e
    ∙ ap (λ (o : Option Row). shortest_varint t ++ shortest_row o values) h.in_table in
    let sizes = ap length whole ∙ length-append (shortest_varint t) (shortest_fields r.fields values) in
    record {
      fits = subst (λ (u : ℕ). FitsRow last u (frame_of r.name values)) (sym e) (fits_row last t r values h fields);
      least = inr (omega (arith, sizes, length-append type_bytes field_bytes, length-short t, h.one_byte, some, lt));
    }

-- ---- an offset and data, left out or not

abbrev IsOffset : Bool → ℕ → List ℕ → Type 0
IsOffset true offset bytes = (offset ≡ 0) × (bytes ≡ [])
IsOffset false offset bytes = Encodes offset bytes

abbrev IsContent : Bool → List ℕ → List ℕ → Type 0
IsContent true content bytes = bytes ≡ content
IsContent false content bytes = (front : List ℕ) × Encodes (length content) front × (bytes ≡ front ++ content)

offset_stands : (at_start : Bool) (before values : List Value) (bytes : List ℕ)
    → IsField (offset_field (not at_start)) before values bytes
    → (offset : ℕ) × (values ≡ Number offset ∷ []) × IsOffset at_start offset bytes
offset_stands true before values bytes s = (0, s.0, (refl, s.1))
offset_stands false before values bytes s = (s.0, s.1, s.2)

content_stands : (end : Bool) (before values : List Value) (bytes : List ℕ)
    → IsField (data_field (not end)) before values bytes
    → (content : List ℕ) × (values ≡ Bytes content ∷ []) × IsContent end content bytes
content_stands true before values bytes s = (bytes, s, refl)
content_stands false before values bytes s = (s.1, s.2, (s.0, s.3, s.4))

abbrev least_offset : Bool → ℕ → List ℕ
least_offset at_start offset = cond at_start [] (shortest_varint offset)

abbrev least_content : Bool → List ℕ → List ℕ
least_content end content = cond end content (shortest_varint (length content) ++ content)

-- what is written is no longer than the given bytes, and shorter if it is written in another way
record Better (stood : Bool) (written : Bool) (least bytes : List ℕ) : Type 0 where
  no_longer : length least ≤ length bytes
  shorter : (stood ≡ written) ⊎ (length least < length bytes)

short_enough : (n : ℕ) (bytes : List ℕ) → Encodes n bytes → length (shortest_varint n) ≤ length bytes
short_enough n bytes s = at_most bytes (shortest_varint n) (number_least n bytes s).1

better_offset : (at_start : Bool) (offset : ℕ) (bytes : List ℕ) → IsOffset at_start offset bytes
    → (offset < 2 ^ 62) × Better at_start (eqb offset 0) (least_offset (eqb offset 0) offset) bytes
better_offset true offset bytes s = (
  omega (arith, s.0),
  subst (λ (k : ℕ). Better true (eqb k 0) (least_offset (eqb k 0) k) bytes) (sym s.0)
      (record { no_longer = omega arith; shorter = inl refl }),
)
better_offset false offset bytes s = ((encoded_bound offset bytes s).0, by_test (eqb offset 0))
  where
    by_test : (b : Bool) → Better false b (least_offset b offset) bytes
    by_test true = record { no_longer = omega arith; shorter = inr (varint_some offset bytes s) }
    by_test false = record { no_longer = short_enough offset bytes s; shorter = inl refl }

better_content : (end last : Bool) (content bytes : List ℕ) → (end ≡ true → last ≡ true) → IsContent end content bytes
    → (last ≡ false → length content < 2 ^ 62) × Better end last (least_content last content) bytes
better_content true true content bytes closed s =
    (λ e. absurd (true_is_not_false e), record { no_longer = omega (arith, ap length s); shorter = inl refl })
better_content true false content bytes closed s = absurd (true_is_not_false (sym (closed refl)))
better_content false true content bytes closed s =
    let lt : length content < length bytes =
    omega (arith, varint_some (length content) s.0 s.1, ap length s.2, length-append s.0 content) in
    (λ e. absurd (true_is_not_false e), record { no_longer = omega (arith, lt); shorter = inr lt })
better_content false false content bytes closed s =
    let le = short_enough (length content) s.0 s.1 in
    let sizes = ap length s.2 ∙ length-append s.0 content in (
      λ e. (encoded_bound (length content) s.0 s.1).0,
      record { no_longer = omega (arith, le, sizes, length-append (shortest_varint (length content)) content); shorter = inl refl },
    )

-- ---- STREAM

-- the type of a STREAM: whether its offset is 0, whether it is the last frame, and whether it ends its stream
abbrev stream_type : Bool → Bool → Bool → ℕ
stream_type at_start last fin = 8 + cond at_start 0 4 + cond (eqb (cond fin 1 0) 1) 1 0 + cond last 0 2

stream_type_is : (at_start last fin : Bool)
    → HasRow last (stream_type at_start last fin) (stream_row (not at_start) (not last) fin)
unfolding size
stream_type_is true true true = record { in_table = refl; opens = refl; small = omega arith; one_byte = refl }
stream_type_is true true false = record { in_table = refl; opens = refl; small = omega arith; one_byte = refl }
stream_type_is true false true = record { in_table = refl; opens = refl; small = omega arith; one_byte = refl }
stream_type_is true false false = record { in_table = refl; opens = refl; small = omega arith; one_byte = refl }
stream_type_is false true true = record { in_table = refl; opens = refl; small = omega arith; one_byte = refl }
stream_type_is false true false = record { in_table = refl; opens = refl; small = omega arith; one_byte = refl }
stream_type_is false false true = record { in_table = refl; opens = refl; small = omega arith; one_byte = refl }
stream_type_is false false false = record { in_table = refl; opens = refl; small = omega arith; one_byte = refl }

abbrev pub stream_values : Bool → ℕ → ℕ → List ℕ → List Value
stream_values fin id offset content = flag fin ∷ Number id ∷ Number offset ∷ Bytes content ∷ []

record StreamParts (at_start end fin : Bool) (values : List Value) (bytes : List ℕ) : Type 0 where
  id : ℕ
  offset : ℕ
  content : List ℕ
  id_bytes : List ℕ
  offset_bytes : List ℕ
  content_bytes : List ℕ
  are : values ≡ stream_values fin id offset content
  parts : bytes ≡ id_bytes ++ (offset_bytes ++ content_bytes)
  id_is : Encodes id id_bytes
  offset_is : IsOffset at_start offset offset_bytes
  content_is : IsContent end content content_bytes

stream_parts : (at_start end fin : Bool) (values : List Value) (bytes : List ℕ)
    → AreFields (stream_row (not at_start) (not end) fin).fields [] values bytes
    → StreamParts at_start end fin values bytes
stream_parts at_start end fin values bytes s =
    let t = s.5 in
    let u = t.5 in
    let v = u.5 in
    let o = offset_stands at_start (s.0 ++ t.0) u.0 u.1 u.4 in
    let d = content_stands end ((s.0 ++ t.0) ++ u.0) v.0 v.1 v.4 in
    record {
      id = t.4.0;
      offset = o.0;
      content = d.0;
      id_bytes = t.1;
      offset_bytes = u.1;
      content_bytes = v.1;
      are = four s.0 t.0 u.0 v.0 values _ _ _ _ v.5.0 s.4.0 t.4.1 o.1 d.1;
      parts = s.3 ∙ ap (λ (l : List ℕ). l ++ s.2) s.4.1 ∙ t.3
          ∙ ap (λ (l : List ℕ). t.1 ++ l) (u.3 ∙ ap (λ (l : List ℕ). u.1 ++ l)
          (v.3 ∙ ap (λ (l : List ℕ). v.1 ++ l) v.5.1 ∙ append-nil v.1));
      id_is = t.4.2;
      offset_is = o.2;
      content_is = d.2;
    }
  where
    four : (a b c d after : List Value) (x y z w : Value) → after ≡ ((a ++ b) ++ c) ++ d → a ≡ x ∷ [] → b ≡ y ∷ []
        → c ≡ z ∷ [] → d ≡ w ∷ [] → after ≡ x ∷ y ∷ z ∷ w ∷ []
    four a b c d after x y z w e p q r t = rw (e, p, q, r, t) refl

stream_bytes : (at_start last fin : Bool) (id offset : ℕ) (content : List ℕ)
    → shortest_fields (stream_row (not at_start) (not last) fin).fields (stream_values fin id offset content)
    ≡ shortest_varint id ++ (least_offset at_start offset ++ least_content last content)
stream_bytes true true fin id offset content = ap (λ (l : List ℕ). shortest_varint id ++ l) (append-nil content)
stream_bytes true false fin id offset content =
    ap (λ (l : List ℕ). shortest_varint id ++ l) (append-nil (shortest_varint (length content) ++ content))
stream_bytes false true fin id offset content =
    ap (λ (l : List ℕ). shortest_varint id ++ (shortest_varint offset ++ l)) (append-nil content)
stream_bytes false false fin id offset content =
    ap (λ (l : List ℕ). shortest_varint id ++ (shortest_varint offset ++ l)) (append-nil (shortest_varint (length content) ++ content))

is_zero : (n : ℕ) → eqb n 0 ≡ true → n ≡ 0
is_zero n e = grind (arith, nat_tests)

stream_fits : (at_start last fin : Bool) (id offset : ℕ) (content : List ℕ) → eqb offset 0 ≡ at_start → id < 2 ^ 62
    → offset < 2 ^ 62 → (last ≡ false → length content < 2 ^ 62)
    → AllFit (stream_row (not at_start) (not last) fin).fields [] (stream_values fin id offset content)
stream_fits true true fin id offset content e i o d = (refl, (i, (is_zero offset e, (tt, refl))))
stream_fits true false fin id offset content e i o d = (refl, (i, (is_zero offset e, (d refl, refl))))
stream_fits false true fin id offset content e i o d = (refl, (i, (o, (tt, refl))))
stream_fits false false fin id offset content e i o d = (refl, (i, (o, (d refl, refl))))

pub stream_row_fits : (last fin : Bool) (id offset : ℕ) (content : List ℕ) → id < 2 ^ 62 → offset < 2 ^ 62
    → (last ≡ false → length content < 2 ^ 62)
    → FitsRow last (written_type last Stream (stream_values fin id offset content)) (frame_of Stream (stream_values fin id offset content))
stream_row_fits last fin id offset content i o d =
    let start = eqb offset 0 in
    fits_row last (stream_type start last fin) (stream_row (not start) (not last) fin)
    (stream_values fin id offset content) (stream_type_is start last fin)
    (stream_fits start last fin id offset content refl i o d)

row_is : (r s : Row) → (let o : Option Row = Some r in o) ≡ Some s → r ≡ s
row_is r s e = cc

-- the other way round: the values of a frame whose row is known
pub in_row : {last : Bool} {t : ℕ} {frame : Meaning} {r : Row} → row_of t ≡ Some r → FitsRow last t frame
    → AllFit r.fields [] frame.values
in_row {frame} {r} e f =
    subst (λ (x : Row). AllFit x.fields [] frame.values) (row_is f.row r (sym f.in_table ∙ e)) f.fields

pub stream_limits : (last fin : Bool) (id offset : ℕ) (content : List ℕ)
    → FitsRow last (written_type last Stream (stream_values fin id offset content)) (frame_of Stream (stream_values fin id offset content))
    → (offset < 2 ^ 62) × (last ≡ false → length content < 2 ^ 62)
stream_limits last fin id offset content f =
    by_cases (eqb offset 0) last (in_row (stream_type_is (eqb offset 0) last fin).in_table f)
  where
    by_cases : (at_start last : Bool)
        → AllFit (stream_row (not at_start) (not last) fin).fields [] (stream_values fin id offset content)
        → (offset < 2 ^ 62) × (last ≡ false → length content < 2 ^ 62)
    by_cases true true v = (omega (arith, v.1.1.0), λ e. absurd (true_is_not_false e))
    by_cases true false v = (omega (arith, v.1.1.0), λ _. v.1.1.1.0)
    by_cases false true v = (v.1.1.0, λ e. absurd (true_is_not_false e))
    by_cases false false v = (v.1.1.0, λ _. v.1.1.1.0)

stream_least : (at_start end fin : Bool)
    → IsLeastRow (stream_type at_start end fin) (stream_row (not at_start) (not end) fin)
stream_least at_start end fin last values type_bytes field_bytes s =
    let p = stream_parts at_start end fin values field_bytes s.fields in
    let o = better_offset at_start p.offset p.offset_bytes p.offset_is in
    let d =
    better_content end last p.content p.content_bytes (λ h. s.closed ((stream_type_is at_start end fin).opens ∙ h)) p.content_is in
    let start = eqb p.offset 0 in
    let row = stream_row (not start) (not last) fin in
    let type_is : written_type last Stream values ≡ stream_type start last fin = ap (written_type last Stream) p.are in
    let fields : AllFit row.fields [] values =
    subst (AllFit row.fields []) (sym p.are) (stream_fits start last fin p.id p.offset p.content refl
    (encoded_bound p.id p.id_bytes p.id_is).0 o.0 d.0) in
    let sizes : length (shortest_fields row.fields values) ≡ length (shortest_varint p.id)
    + (length (least_offset start p.offset) + length (least_content last p.content)) =
    ap (λ (v : List Value). length (shortest_fields row.fields v)) p.are
    ∙ ap length (stream_bytes start last fin p.id p.offset p.content)
    ∙ lengths (shortest_varint p.id) (least_offset start p.offset) (least_content last p.content) in
    let stood : length field_bytes ≡ length p.id_bytes + (length p.offset_bytes + length p.content_bytes) =
    ap length p.parts ∙ lengths p.id_bytes p.offset_bytes p.content_bytes in
    let id_le = short_enough p.id p.id_bytes p.id_is in
    let other : length (shortest_fields row.fields values) < length field_bytes
    → LeastFrame last (frame_of Stream values) (type_bytes ++ field_bytes) =
    λ lt. other_type last (stream_type start last fin) row values type_bytes field_bytes type_is
    (stream_type_is start last fin) fields (varint_some (stream_type at_start end fin) type_bytes s.type_encoded)
    lt in
    elim o.1.shorter [
      | inr lt ↦ other (omega (arith, sizes, stood, id_le, lt, d.1.no_longer))
      | inl same ↦ elim d.1.shorter [
        | inr lt ↦ other (omega (arith, sizes, stood, id_le, lt, o.1.no_longer))
        | inl same2 ↦ same_type last (stream_type at_start end fin) (stream_row (not at_start) (not end) fin) values
            type_bytes field_bytes s
            (type_is ∙ ap (λ (b : Bool). stream_type b last fin) (sym same) ∙ ap (λ (b : Bool). stream_type at_start b fin) (sym same2))
      ]
    ]
  where
    lengths : (a b c : List ℕ) → length (a ++ (b ++ c)) ≡ length a + (length b + length c)
    lengths a b c = length-append a (b ++ c) ∙ ap (λ (k : ℕ). length a + k) (length-append b c)

-- ---- DATAGRAM

abbrev datagram_type : Bool → ℕ
datagram_type last = cond last 0x30 0x31

datagram_type_is : (last : Bool) → HasRow last (datagram_type last) (datagram_row (not last))
unfolding size
datagram_type_is true = record { in_table = refl; opens = refl; small = omega arith; one_byte = refl }
datagram_type_is false = record { in_table = refl; opens = refl; small = omega arith; one_byte = refl }

datagram_bytes : (last : Bool) (content : List ℕ)
    → shortest_fields (datagram_row (not last)).fields (Bytes content ∷ []) ≡ least_content last content
datagram_bytes true content = append-nil content
datagram_bytes false content = append-nil (shortest_varint (length content) ++ content)

datagram_fits : (last : Bool) (content : List ℕ) → (last ≡ false → length content < 2 ^ 62)
    → AllFit (datagram_row (not last)).fields [] (Bytes content ∷ [])
datagram_fits true content d = (tt, refl)
datagram_fits false content d = (d refl, refl)

pub datagram_row_fits : (last : Bool) (content : List ℕ) → (last ≡ false → length content < 2 ^ 62)
    → FitsRow last (datagram_type last) (frame_of Datagram (Bytes content ∷ []))
datagram_row_fits last content d =
    fits_row last (datagram_type last) (datagram_row (not last)) (Bytes content ∷ []) (datagram_type_is last) (datagram_fits last content d)

pub datagram_limit : (last : Bool) (content : List ℕ) → FitsRow last (datagram_type last)
    (frame_of Datagram (Bytes content ∷ [])) → last ≡ false → length content < 2 ^ 62
datagram_limit true content f e = absurd (true_is_not_false e)
datagram_limit false content f e = (in_row (datagram_type_is false).in_table f).0

datagram_least : (end : Bool) → IsLeastRow (datagram_type end) (datagram_row (not end))
datagram_least end last values type_bytes field_bytes s =
    let c = content_stands end [] s.fields.0 s.fields.1 s.fields.4 in
    let content = c.0 in
    let are : values ≡ Bytes content ∷ [] = s.fields.5.0 ∙ c.1 in
    let stood : length field_bytes ≡ length s.fields.1 =
    ap length (s.fields.3 ∙ ap (λ (l : List ℕ). s.fields.1 ++ l) s.fields.5.1 ∙ append-nil s.fields.1) in
    let d = better_content end last content s.fields.1 (λ h. s.closed ((datagram_type_is end).opens ∙ h)) c.2 in
    let row = datagram_row (not last) in
    let fields : AllFit row.fields [] values =
    subst (AllFit row.fields []) (sym are) (datagram_fits last content d.0) in
    let sizes : length (shortest_fields row.fields values) ≡ length (least_content last content) =
    ap (λ (v : List Value). length (shortest_fields row.fields v)) are ∙ ap length (datagram_bytes last content) in
    elim d.1.shorter [
      | inr lt ↦ other_type last (datagram_type last) row values type_bytes field_bytes refl (datagram_type_is last) fields
          (varint_some (datagram_type end) type_bytes s.type_encoded) (omega (arith, sizes, stood, lt))
      | inl same ↦ same_type last (datagram_type end) (datagram_row (not end)) values type_bytes field_bytes s (ap datagram_type (sym same))
    ]

-- ---- the other frames

-- the type depends on the values at most as these rows show
one_type : {t : ℕ} {r : Row} → row_of t ≡ Some r
    → ((last : Bool) (values : List Value) (bytes : List ℕ) → AreFields r.fields [] values bytes → written_type last r.name values ≡ t)
    → IsLeastRow t r
one_type {t} {r} in_table e last values type_bytes field_bytes s =
    same_type last t r values type_bytes field_bytes s (e last values field_bytes s.fields)

ack_type : (last : Bool) (values : List Value) (bytes : List ℕ) → AreFields ack_row.fields [] values bytes
    → written_type last Ack values ≡ 2
ack_type last values bytes s = let t = s.5 in let u = t.5 in rw (u.5.0, s.4.1, t.4.1, u.4.4) refl

ack_ecn_type : (last : Bool) (values : List Value) (bytes : List ℕ) → AreFields ack_ecn_row.fields [] values bytes
    → written_type last Ack values ≡ 3
ack_ecn_type last values bytes s =
    let t = s.5 in let u = t.5 in let v = u.5 in let w = v.5 in let x = w.5 in
    rw (x.5.0, s.4.1, t.4.1, u.4.4, v.4.1) refl

max_streams_type : (dir : Dir) (last : Bool) (values : List Value) (bytes : List ℕ)
    → AreFields (streams_row MaxStreams dir).fields [] values bytes
    → written_type last MaxStreams values ≡ 0x12 + dir_number dir
max_streams_type dir last values bytes s = rw (s.5.5.0, s.4.0) refl

streams_blocked_type : (dir : Dir) (last : Bool) (values : List Value) (bytes : List ℕ)
    → AreFields (streams_row StreamsBlocked dir).fields [] values bytes
    → written_type last StreamsBlocked values ≡ 0x16 + dir_number dir
streams_blocked_type dir last values bytes s = rw (s.5.5.0, s.4.0) refl

-- rows whose names have one type
abbrev has_one_type : Name → ℕ → Bool
has_one_type Ack t = false
has_one_type Stream t = false
has_one_type MaxStreams t = false
has_one_type StreamsBlocked t = false
has_one_type Datagram t = false
has_one_type name t = eqb (named_type name []) t

same_number : (m n : ℕ) → eqb m n ≡ true → m ≡ n
same_number m n e = grind (arith, nat_tests)

the_type : (name : Name) (t : ℕ) → has_one_type name t ≡ true → (last : Bool) (values : List Value)
    → written_type last name values ≡ t
the_type Ack t e last values = absurd (true_is_not_false (sym e))
the_type Stream t e last values = absurd (true_is_not_false (sym e))
the_type MaxStreams t e last values = absurd (true_is_not_false (sym e))
the_type StreamsBlocked t e last values = absurd (true_is_not_false (sym e))
the_type Datagram t e last values = absurd (true_is_not_false (sym e))
the_type name t e last values = same_number (named_type name []) t e

-- the rows from the first one on whose name has several types, and those after a type
abbrev after_plain : List (ℕ × Row) → List (ℕ × Row)
after_plain [] = []
after_plain (entry ∷ entries) = cond (has_one_type entry.1.name entry.0) (after_plain entries) (entry ∷ entries)

abbrev after : ℕ → List (ℕ × Row) → List (ℕ × Row)
after t [] = []
after t (entry ∷ entries) = cond (eqb entry.0 t) entries (after t entries)

and_plain : (entries : List (ℕ × Row)) → Each IsLeastRow (after_plain entries) → Each IsLeastRow entries
and_plain [] others = others
and_plain (entry ∷ entries) others =
    by_test (has_one_type entry.1.name entry.0) refl others (λ left. and_plain entries left)
  where
    by_test : (b : Bool) → has_one_type entry.1.name entry.0 ≡ b
        → Each IsLeastRow (cond b (after_plain entries) (entry ∷ entries))
        → (Each IsLeastRow (after_plain entries) → Each IsLeastRow entries) → Each IsLeastRow (entry ∷ entries)
    by_test true one left others = (
      λ last values type_bytes field_bytes s. same_type last entry.0 entry.1 values type_bytes field_bytes s
          (the_type entry.1.name entry.0 one last values),
      others left,
    )
    by_test false several left others = left

infixr 5 ◌&◌
◌&◌ : {A B : Type 0} → A → B → A × B
a & b = (a, b)

-- in the order of the table
each_least : Each IsLeastRow rows
each_least =
    and_plain rows (one_type refl ack_type & one_type refl ack_ecn_type & and_plain (after 0x03 rows)
    (stream_least true true false & stream_least true true true & stream_least true false false & stream_least true false true
    & stream_least false true false & stream_least false true true & stream_least false false false & stream_least false false true
    & and_plain (after 0x0f rows)
    (one_type refl (max_streams_type Bi) & one_type refl (max_streams_type Uni) & and_plain (after 0x13 rows)
    (one_type refl (streams_blocked_type Bi) & one_type refl (streams_blocked_type Uni) & and_plain (after 0x17 rows)
    (datagram_least true & datagram_least false & and_plain (after 0x31 rows) tt)))))

pub frame_least : (last : Bool) (found : TypedFrame) (bytes : List ℕ) → IsFrame false found bytes
    → (is_open found.type ≡ true → last ≡ true) → LeastFrame last found.frame bytes
frame_least last found bytes f closed =
    let least = found_row IsLeastRow found.type f.row rows each_least f.in_table in
    let stands : Stands last found.type f.row found.frame.values f.type_bytes f.field_bytes =
    record { type_encoded = f.type_encoded.encoded; in_table = f.in_table; fields = f.fields; closed = closed } in
    let frame_is : frame_of f.row.name found.frame.values ≡ found.frame =
    ap (λ (n : Name). frame_of n found.frame.values) (sym f.name) in
    subst (λ (l : List ℕ). LeastFrame last found.frame l) (sym f.parts)
    (subst (λ (m : Meaning). LeastFrame last m (f.type_bytes ++ f.field_bytes)) frame_is
    (least last found.frame.values f.type_bytes f.field_bytes stands))
