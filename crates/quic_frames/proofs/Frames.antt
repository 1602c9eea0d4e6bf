-- Frames that are read are encoded, and those that are encoded are read.
use Rattle.std.proofs.Common.{◌≡◌, ◌≢◌, ℕ, ◌-◌, Bool, true, false, cond, eqb, List, [], ◌++◌, length, Option, Some, None, Result, Ok, Err, refl, sym, ap, subst, ◌∙◌, append_assoc, inl, inr, arith, eq-eqb}
use Rattle.std.specs.Prelude.{◌⊎◌, not}
use Rattle.std.proofs.lemmas.List.{length-append}
use Rattle.std.proofs.lemmas.Bool.Decides.{nat_tests}
use Rattle.quic_base.specs.Number.{AreBytes}
use Rattle.quic_base.specs.Varint.{Encodes, shortest_varint, size}
use Rattle.quic_base.proofs.PublicLaws.{back_bytes, length-short, short_least}
use Rattle.quic_frame_fields.specs.declared.frame.fault.Fault.{Fault}
use Rattle.quic_frame_fields.specs.declared.frame.fault.Fault.TheVariants.{InvalidFrameId, LongType}
use Rattle.std.specs.List.{list_any}
use Rattle.std.specs.Option.{option_map_or}
use Rattle.quic_frame_fields.specs.Field.{NoNumber, is_rest}
use Rattle.quic_frame_fields.specs.Table.{Row, row_of, is_open}
use Rattle.quic_frame_fields.specs.Payload.{Meaning, TypedFrame, IsType, IsFrame, IsNoFrame}
use Rattle.quic_frame_fields.specs.Reading.{varint_at, fields_at, row_at, in_row, frame_at, Invalid, invalid, after_type, is_long_type, at_type, found_at}
use Rattle.quic_frame_fields.proofs.Steps.{bind_ok, mapped_err, err_of, ok_is, true_is_not_false}
use Rattle.quic_frame_fields.proofs.Varints.{varint_takes, varint_again, varint_fails}
use Rattle.quic_frame_fields.proofs.Fields.{TakesAll, fields_take, fields_again, fields_stop, fields_stop_again}
use Rattle.quic_frame_fields.proofs.Rows.{row_is_well}

-- ---- the width of a type

test_off : (b : Bool) → not b ≡ false → b ≡ true
test_off true e = refl
test_off false e = absurd cc

test_on : (b : Bool) → not b ≡ true → b ≡ false
test_on true e = absurd cc
test_on false e = refl

same_size : (m n : ℕ) → eqb m n ≡ true → m ≡ n
same_size m n e = grind (arith, nat_tests)

not_true : (b : Bool) → b ≡ true → not b ≡ false
not_true true e = refl
not_true false e = absurd cc

not_false : (b : Bool) → (b ≡ true → ⊥) → not b ≡ true
not_false true e = absurd (e refl)
not_false false e = refl

is_type : (strict : Bool) (t : ℕ) (front : List ℕ) → Encodes t front → is_long_type strict t (length front) ≡ false
    → IsType strict t front
is_type false t front s e = record { encoded = s; shortest = λ h. absurd (true_is_not_false (sym h)) }
is_type true t front s e =
    let same : length front ≡ size t = same_size (length front) (size t) (test_off (eqb (length front) (size t)) e) in
    record { encoded = s; shortest = λ _. (short_least t front s).1 (same ∙ sym (length-short t)) }

is_not_long : (strict : Bool) (t : ℕ) (front : List ℕ) → IsType strict t front
    → is_long_type strict t (length front) ≡ false
is_not_long false t front s = refl
is_not_long true t front s =
    let same : length front ≡ size t = ap length (s.shortest refl) ∙ length-short t in
    not_true (eqb (length front) (size t)) (eq-eqb (length front) (size t) same)

record IsLong (strict : Bool) (t : ℕ) (front : List ℕ) : Type 0 where
  counts : strict ≡ true
  long : front ≢ shortest_varint t

is_long : (strict : Bool) (t : ℕ) (front : List ℕ) → Encodes t front → is_long_type strict t (length front) ≡ true
    → IsLong strict t front
is_long false t front s e = absurd cc
is_long true t front s e = record {
  counts = refl;
  long = λ h.
      let same : length front ≡ size t = ap length h ∙ length-short t in
      true_is_not_false (sym (eq-eqb (length front) (size t) same) ∙ test_on (eqb (length front) (size t)) e);
}

is_long_again : (strict : Bool) (t : ℕ) (front : List ℕ) → Encodes t front → IsLong strict t front
    → is_long_type strict t (length front) ≡ true
is_long_again false t front s l = absurd (true_is_not_false (sym l.counts))
is_long_again true t front s l =
    not_false (eqb (length front) (size t)) (λ h. l.long ((short_least t front s).1
    (same_size (length front) (size t) h ∙ sym (length-short t))))

-- the width of what is in front
front_width : (bytes front back : List ℕ) → bytes ≡ front ++ back → length bytes - length back ≡ length front
front_width bytes front back e = omega (arith, ap length e, length-append front back)

-- ---- steps of a reading

record TakesRow (r : Row) (frame : Meaning) (bytes left : List ℕ) : Type 0 where
  name : frame.name ≡ r.name
  fields : TakesAll r.fields [] frame.values bytes left

row_takes : (r : Row) (bytes : List ℕ) (x : Meaning × List ℕ) → AreBytes bytes → row_at r bytes ≡ Ok x
    → TakesRow r x.0 bytes x.1
unfolding row_at
row_takes r bytes x fits e =
    let a = bind_ok (fields_at r.fields [] bytes) (λ y. Ok (record { name = r.name; values = y.0 }, y.1)) x e in
    let made : Meaning × List ℕ = (record { name = r.name; values = a.0.0 }, a.0.1) in
    subst (λ (y : Meaning × List ℕ). TakesRow r y.0 bytes y.1) (ok_is made x a.2)
    (record { name = refl; fields = fields_take r.fields [] bytes a.0 fits a.1 })

in_row_ok : (o : Option Row) (bytes : List ℕ) (y : Meaning × List ℕ) → in_row o bytes ≡ Ok y
    → (r : Row) × (o ≡ Some r) × (row_at r bytes ≡ Ok y)
in_row_ok None bytes y e = absurd cc
in_row_ok (Some r) bytes y e = (r, refl, e)

in_row_err : (o : Option Row) (bytes : List ℕ) (f : Fault) → in_row o bytes ≡ Err f
    → ((o ≡ None) × (f ≡ InvalidFrameId)) ⊎ ((r : Row) × (o ≡ Some r) × (row_at r bytes ≡ Err f))
in_row_err None bytes f e = inl (refl, cc)
in_row_err (Some r) bytes f e = inr (r, refl, e)

abbrev found_with : ℕ → Meaning → TypedFrame
found_with t frame = record { type = t; frame = frame }

after_type_ok : (t : ℕ) (r : Result (Meaning × List ℕ) Fault) (x : TypedFrame × List ℕ) → after_type t r ≡ Ok x
    → (y : Meaning × List ℕ) × (r ≡ Ok y) × ((found_with t y.0, y.1) ≡ x)
after_type_ok t (Ok y) x e = (y, refl, cc)
after_type_ok t (Err f) x e = absurd cc

after_type_err : (t : ℕ) (r : Result (Meaning × List ℕ) Fault) (i : Invalid) → after_type t r ≡ Err i
    → (f : Fault) × (r ≡ Err f) × (i ≡ invalid (Some t) f)
after_type_err t (Ok y) i e = absurd cc
after_type_err t (Err f) i e = (f, refl, cc)

-- what reading does with a number that it found
abbrev with_type : Bool → ℕ → ℕ × List ℕ → Result (TypedFrame × List ℕ) Invalid
with_type long total y = cond long (Err (invalid (Some y.0) LongType)) (after_type y.0 (frame_at y.0 y.1))

with_type_ok : (long : Bool) (total : ℕ) (y : ℕ × List ℕ) (x : TypedFrame × List ℕ) → with_type long total y ≡ Ok x
    → (long ≡ false) × (after_type y.0 (frame_at y.0 y.1) ≡ Ok x)
with_type_ok true total y x e = absurd cc
with_type_ok false total y x e = (refl, e)

with_type_err : (long : Bool) (total : ℕ) (y : ℕ × List ℕ) (i : Invalid) → with_type long total y ≡ Err i
    → ((long ≡ true) × (i ≡ invalid (Some y.0) LongType)) ⊎ ((long ≡ false) × (after_type y.0 (frame_at y.0 y.1) ≡ Err i))
with_type_err true total y i e = inl (refl, cc)
with_type_err false total y i e = inr (refl, e)

at_type_ok : (strict : Bool) (before : Option ℕ) (total : ℕ) (v : Result (ℕ × List ℕ) Fault) (x : TypedFrame × List ℕ)
    → at_type strict before total v ≡ Ok x
    → (y : ℕ × List ℕ) × (v ≡ Ok y) × (with_type (is_long_type strict y.0 (total - length y.1)) total y ≡ Ok x)
at_type_ok strict before total (Ok y) x e = (y, refl, e)
at_type_ok strict before total (Err f) x e = absurd cc

at_type_err : (strict : Bool) (before : Option ℕ) (total : ℕ) (v : Result (ℕ × List ℕ) Fault) (i : Invalid)
    → at_type strict before total v ≡ Err i
    → ((f : Fault) × (v ≡ Err f) × (i ≡ invalid before f)) ⊎ ((y : ℕ × List ℕ) × (v ≡ Ok y)
    × (with_type (is_long_type strict y.0 (total - length y.1)) total y ≡ Err i))
at_type_err strict before total (Ok y) i e = inr (y, refl, e)
at_type_err strict before total (Err f) i e = inl (f, refl, cc)

-- ---- frames

abbrev is_open_row : Option Row → Bool
is_open_row row = option_map_or (λ (r : Row). list_any is_rest r.fields) row false

pub record TakesFound (strict : Bool) (found : TypedFrame) (bytes left : List ℕ) : Type 0 where
  pub front : List ℕ
  pub parts : bytes ≡ front ++ left
  pub frame : IsFrame strict found front
  pub opens : is_open found.type ≡ true → left ≡ []

pub found_takes : (strict : Bool) (before : Option ℕ) (bytes : List ℕ) (x : TypedFrame × List ℕ) → AreBytes bytes
    → found_at strict before bytes ≡ Ok x → TakesFound strict x.0 bytes x.1
unfolding found_at frame_at
found_takes strict before bytes x fits e =
    let a = at_type_ok strict before (length bytes) (varint_at bytes) x e in
    let w = with_type_ok (is_long_type strict a.0.0 (length bytes - length a.0.1)) (length bytes) a.0 x a.2 in
    let b = after_type_ok a.0.0 (frame_at a.0.0 a.0.1) x w.1 in
    let c = in_row_ok (row_of a.0.0) a.0.1 b.0 b.1 in
    let t = varint_takes bytes a.0.0 a.0.1 fits a.1 in
    let short_enough : is_long_type strict a.0.0 (length t.front) ≡ false =
    ap (is_long_type strict a.0.0) (sym (front_width bytes t.front a.0.1 t.split)) ∙ w.0 in
    let u = row_takes c.0 a.0.1 b.0 (back_bytes t.front a.0.1 (subst AreBytes t.split fits)) c.2 in
    subst (λ (y : TypedFrame × List ℕ). TakesFound strict y.0 bytes y.1) b.2
    (record {
      front = t.front ++ u.fields.front;
      parts = t.split ∙ ap (λ (l : List ℕ). t.front ++ l) u.fields.parts ∙ sym (append_assoc t.front u.fields.front b.0.1);
      frame = record {
        type_bytes = t.front;
        field_bytes = u.fields.front;
        parts = refl;
        type_encoded = is_type strict a.0.0 t.front t.is short_enough;
        row = c.0;
        in_table = c.1;
        name = u.name;
        fields = u.fields.encoded;
      };
      opens = λ h. u.fields.opens (sym (ap is_open_row c.1) ∙ h);
    })

-- a type at the front is read
type_again : (strict : Bool) (before : Option ℕ) (t : ℕ) (front back : List ℕ) → IsType strict t front
    → found_at strict before (front ++ back) ≡ after_type t (frame_at t back)
unfolding found_at
type_again strict before t front back s =
    let one = varint_again t front back s.encoded in
    let wide : is_long_type strict t (length (front ++ back) - length back) ≡ false =
    ap (is_long_type strict t) (front_width (front ++ back) front back refl) ∙ is_not_long strict t front s in
    rw (one, wide) refl

pub found_again : (strict : Bool) (before : Option ℕ) (found : TypedFrame) (front back : List ℕ)
    → IsFrame strict found front → (is_open found.type ≡ true → back ≡ [])
    → found_at strict before (front ++ back) ≡ Ok (found, back)
unfolding frame_at row_at
found_again strict before found front back frame closed =
    let regrouped : front ++ back ≡ frame.type_bytes ++ (frame.field_bytes ++ back) =
    ap (λ (l : List ℕ). l ++ back) frame.parts ∙ append_assoc frame.type_bytes frame.field_bytes back in
    let one = type_again strict before found.type frame.type_bytes (frame.field_bytes ++ back) frame.type_encoded in
    let row_closed : list_any is_rest frame.row.fields ≡ true → back ≡ [] = λ h. closed (ap is_open_row frame.in_table ∙ h) in
    let two =
    fields_again frame.row.fields [] found.frame.values frame.field_bytes back
    (row_is_well found.type frame.row frame.in_table) row_closed frame.fields in
    ap (found_at strict before) regrouped ∙ one ∙ rw (frame.in_table, two, ← frame.name) refl

-- ---- an invalid frame

pub record Tells (strict : Bool) (before : Option ℕ) (bytes : List ℕ) (reported : Invalid) : Type 0 where
  pub type : Option ℕ
  pub reason : Fault
  pub is_reported : reported ≡ invalid type reason
  pub no_frame : IsNoFrame strict before bytes type reason

pub found_fails : (strict : Bool) (before : Option ℕ) (bytes : List ℕ) (i : Invalid) → AreBytes bytes → bytes ≢ []
    → found_at strict before bytes ≡ Err i → Tells strict before bytes i
unfolding found_at frame_at row_at
found_fails strict before bytes i fits some e =
    elim (at_type_err strict before (length bytes) (varint_at bytes) i e) [
      | inl a ↦
          let no_front : NoNumber bytes = λ n front back parts v. let again = ap varint_at parts ∙ varint_again n front back v in absurd (cc (again, a.1)) in
          record {
            type = before;
            reason = a.0;
            is_reported = a.2;
            no_frame = inl (some, no_front, refl, varint_fails bytes a.0 a.1);
          }
      | inr a ↦
          let t = varint_takes bytes a.0.0 a.0.1 fits a.1 in
          let wide = ap (is_long_type strict a.0.0) (sym (front_width bytes t.front a.0.1 t.split)) in
          elim (with_type_err (is_long_type strict a.0.0 (length bytes - length a.0.1)) (length bytes) a.0 i a.2) [
            | inl w ↦
                let l = is_long strict a.0.0 t.front t.is (wide ∙ w.0) in
                record {
                  type = Some a.0.0;
                  reason = LongType;
                  is_reported = w.1;
                  no_frame = inr (inl (
                    a.0.0,
                    record {
                      counts = l.counts;
                      front = t.front;
                      back = a.0.1;
                      parts = t.split;
                      encoded = t.is;
                      long = l.long;
                    },
                    refl,
                    refl,
                  ));
                }
            | inr w ↦
                let encoded = is_type strict a.0.0 t.front t.is (wide ∙ w.0) in
                let b = after_type_err a.0.0 (frame_at a.0.0 a.0.1) i w.1 in
                elim (in_row_err (row_of a.0.0) a.0.1 b.0 b.1) [
                  | inl c ↦ record {
                    type = Some a.0.0;
                    reason = b.0;
                    is_reported = b.2;
                    no_frame = inr (inr (inl (
                      a.0.0,
                      record {
                        front = t.front;
                        back = a.0.1;
                        parts = t.split;
                        encoded = encoded;
                        then = c.0;
                      },
                      refl,
                      c.1,
                    )));
                  }
                  | inr c ↦
                      let failed =
                      mapped_err (fields_at c.0.fields [] a.0.1) (λ y. (record { name = c.0.name; values = y.0 }, y.1)) b.0 c.2 in
                      let stops =
                      fields_stop c.0.fields [] a.0.1 b.0 (back_bytes t.front a.0.1 (subst AreBytes t.split fits)) failed in
                      record {
                        type = Some a.0.0;
                        reason = b.0;
                        is_reported = b.2;
                        no_frame = inr (inr (inr (
                          a.0.0,
                          record {
                            front = t.front;
                            back = a.0.1;
                            parts = t.split;
                            encoded = encoded;
                            then = (c.0, c.1, stops);
                          },
                          refl,
                        )));
                      }
                ]
          ]
    ]

pub no_frame_again : (strict : Bool) (before : Option ℕ) (bytes : List ℕ) (type : Option ℕ) (reason : Fault)
    → AreBytes bytes → IsNoFrame strict before bytes type reason
    → found_at strict before bytes ≡ Err (invalid type reason)
unfolding found_at frame_at row_at
no_frame_again strict before bytes type reason fits (inl a) =
    let failed =
    err_of (varint_at bytes) (λ x h. let t = varint_takes bytes x.0 x.1 fits h in a.1 x.0 t.front x.1 t.split t.is) in
    let why = varint_fails bytes failed.0 failed.1 in
    rw (failed.1, why, a.2, a.3) refl
no_frame_again strict before bytes type reason fits (inr (inl a)) =
    let u = a.1 in
    let one = varint_again a.0 u.front u.back u.encoded in
    let wide : is_long_type strict a.0 (length (u.front ++ u.back) - length u.back) ≡ true =
    ap (is_long_type strict a.0) (front_width (u.front ++ u.back) u.front u.back refl)
    ∙ is_long_again strict a.0 u.front u.encoded (record { counts = u.counts; long = u.long }) in
    rw (u.parts, one, wide, a.2, a.3) refl
no_frame_again strict before bytes type reason fits (inr (inr (inl a))) =
    let u = a.1 in
    let one = ap (found_at strict before) u.parts ∙ type_again strict before a.0 u.front u.back u.encoded in
    one ∙ rw (u.then, a.2, a.3) refl
no_frame_again strict before bytes type reason fits (inr (inr (inr a))) =
    let u = a.1 in
    let one = ap (found_at strict before) u.parts ∙ type_again strict before a.0 u.front u.back u.encoded in
    let back_fits = back_bytes u.front u.back (subst AreBytes u.parts fits) in
    let two =
    fields_stop_again u.then.0.fields [] u.back reason back_fits (row_is_well a.0 u.then.0 u.then.1) u.then.2 in
    one ∙ rw (u.then.1, two, a.2) refl
