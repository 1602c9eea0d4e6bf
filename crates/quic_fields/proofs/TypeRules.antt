-- Why a type is rejected by rules.
use Rattle.std.proofs.Common.{◌≡◌, ℕ, ◌-◌, Bool, true, false, cond, eqb, List, ◌++◌, length, Some, None, Result, Ok, Err, refl, sym, ap, ◌∙◌, inl, inr, arith, eq-eqb}
use Rattle.std.specs.Prelude.{◌⊎◌, not}
use Rattle.std.proofs.lemmas.Bool.Decides.{nat_tests}
use Rattle.quic_base.specs.Number.{AreBytes}
use Rattle.quic_base.specs.Varint.{Encodes, shortest_varint, size}
use Rattle.quic_base.proofs.PublicLaws.{length-short, short_least}
use Rattle.quic_frame_fields.specs.declared.frame.fault.Fault.{Fault}
use Rattle.quic_frame_fields.specs.declared.frame.fault.Fault.TheVariants.{InvalidFrameId, LongType}
use Rattle.quic_frame_fields.specs.Field.{NoNumber}
use Rattle.quic_frame_fields.specs.Payload.{IsType, HasLongType}
use Rattle.quic_frame_fields.specs.Reading.{varint_at, is_long_type}
use Rattle.quic_frame_fields.proofs.Steps.{true_is_not_false}
use Rattle.quic_frame_fields.proofs.Varints.{varint_takes, varint_again}
use Rattle.quic_frames.specs.declared.frame.rules.Rules.{Rules}
use Rattle.quic_frames.specs.Rules.{is_unknown_by}
use Rattle.quic_fields.specs.Rules.{AllowsType, ForbidsType, type_fault_at}
use Rattle.quic_fields.proofs.SpanLaws.{front_width}

test_off : (b : Bool) → not b ≡ false → b ≡ true
test_off true e = refl
test_off false e = absurd cc

test_on : (b : Bool) → not b ≡ true → b ≡ false
test_on true e = absurd cc
test_on false e = refl

same_size : (m n : ℕ) → eqb m n ≡ true → m ≡ n
same_size m n e = grind (arith, nat_tests)

pub is_type : (strict : Bool) (t : ℕ) (front : List ℕ) → Encodes t front → is_long_type strict t (length front) ≡ false
    → IsType strict t front
is_type false t front s e = record { encoded = s; shortest = λ h. absurd (true_is_not_false (sym h)) }
is_type true t front s e =
    let same : length front ≡ size t = same_size (length front) (size t) (test_off (eqb (length front) (size t)) e) in
    record { encoded = s; shortest = λ _. (short_least t front s).1 (same ∙ sym (length-short t)) }

pub not_long : (t : ℕ) (front : List ℕ) → front ≡ shortest_varint t → is_long_type true t (length front) ≡ true → ⊥
not_long t front h e =
    let same : length front ≡ size t = ap length h ∙ length-short t in
    true_is_not_false (sym (eq-eqb (length front) (size t) same) ∙ test_on (eqb (length front) (size t)) e)

pub is_long : (strict : Bool) (t : ℕ) (bytes front back : List ℕ) → bytes ≡ front ++ back → Encodes t front
    → is_long_type strict t (length front) ≡ true → HasLongType strict bytes t
is_long false t bytes front back parts s e = absurd cc
is_long true t bytes front back parts s e = record {
  counts = refl;
  front = front;
  back = back;
  parts = parts;
  encoded = s;
  long = λ h. not_long t front h e;
}

none_of : (long unknown : Bool) → cond long (Some LongType) (cond unknown (Some InvalidFrameId) None) ≡ None
    → (long ≡ false) × (unknown ≡ false)
none_of true unknown e = absurd cc
none_of false true e = absurd cc
none_of false false e = (refl, refl)

some_of : (long unknown : Bool) (reason : Fault)
    → cond long (Some LongType) (cond unknown (Some InvalidFrameId) None) ≡ Some reason
    → ((long ≡ true) × (reason ≡ LongType)) ⊎ ((long ≡ false) × (unknown ≡ true) × (reason ≡ InvalidFrameId))
some_of true unknown reason e = inl (refl, cc)
some_of false true reason e = inr (refl, refl, cc)
some_of false false reason e = absurd cc

pub judged : (rules : Rules) (bytes : List ℕ) (v : Result (ℕ × List ℕ) Fault) → AreBytes bytes → varint_at bytes ≡ v
    → type_fault_at rules (length bytes) v ≡ None → NoNumber bytes ⊎ AllowsType rules bytes
judged rules bytes (Err d) fits h e =
    inl (λ n front back parts v. let again = ap varint_at parts ∙ varint_again n front back v in absurd (cc (again, h)))
judged rules bytes (Ok y) fits h e =
    let t = varint_takes bytes y.0 y.1 fits h in
    let w = none_of (is_long_type rules.short_types y.0 (length bytes - length y.1)) (is_unknown_by rules (Some y.0)) e in
    let wide = ap (is_long_type rules.short_types y.0) (sym (front_width bytes t.front y.1 t.split)) ∙ w.0 in
    inr (
      y.0,
      record {
        front = t.front;
        back = y.1;
        parts = t.split;
        encoded = is_type rules.short_types y.0 t.front t.is wide;
        then = w.1;
      },
    )

pub refused : (rules : Rules) (bytes : List ℕ) (v : Result (ℕ × List ℕ) Fault) (reason : Fault) → AreBytes bytes
    → varint_at bytes ≡ v → type_fault_at rules (length bytes) v ≡ Some reason → ForbidsType rules bytes reason
refused rules bytes (Err d) reason fits h e = absurd cc
refused rules bytes (Ok y) reason fits h e =
    let t = varint_takes bytes y.0 y.1 fits h in
    let wide = ap (is_long_type rules.short_types y.0) (sym (front_width bytes t.front y.1 t.split)) in
    elim (some_of (is_long_type rules.short_types y.0 (length bytes - length y.1)) (is_unknown_by rules (Some y.0)) reason e) [
      | inl w ↦ (y.0, inl (is_long rules.short_types y.0 bytes t.front y.1 t.split t.is (wide ∙ w.0), w.1))
      | inr w ↦ (
        y.0,
        inr (
          record {
            front = t.front;
            back = y.1;
            parts = t.split;
            encoded = is_type rules.short_types y.0 t.front t.is (wide ∙ w.0);
            then = w.1;
          },
          w.2,
        ),
      )
    ]
