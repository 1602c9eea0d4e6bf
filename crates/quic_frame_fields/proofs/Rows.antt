-- The rows of the table.
use Rattle.std.proofs.Common.{◌≡◌, ℕ, zero, suc, ◌+◌, ◌-◌, ◌<◌, ◌≤◌, eqb, bit_and, Bool, true, false, List, [], ◌∷◌, Some, refl, subst, inl, inr, arith}
use Rattle.std.specs.Prelude.{not, ◌&&◌, ◌⊎◌}
use Rattle.std.specs.Map.{lookup}
use Rattle.quic_frame_fields.specs.Table.{Row, rows, row_of, stream_row}
use Rattle.quic_frame_fields.proofs.Fields.{is_well}

cases_bool : (b : Bool) → (b ≡ true) ⊎ (b ≡ false)
cases_bool true = inl refl
cases_bool false = inr refl

above_eight : (k : ℕ) → k < 8
    → row_of (8 + k) ≡ Some (stream_row (not (eqb (bit_and (8 + k) 4) 0)) (not (eqb (bit_and (8 + k) 2) 0))
    (not (eqb (bit_and (8 + k) 1) 0)))
above_eight zero lt = refl
above_eight (suc zero) lt = refl
above_eight (suc (suc zero)) lt = refl
above_eight (suc (suc (suc zero))) lt = refl
above_eight (suc (suc (suc (suc zero)))) lt = refl
above_eight (suc (suc (suc (suc (suc zero))))) lt = refl
above_eight (suc (suc (suc (suc (suc (suc zero)))))) lt = refl
above_eight (suc (suc (suc (suc (suc (suc (suc zero))))))) lt = refl
above_eight (suc (suc (suc (suc (suc (suc (suc (suc k)))))))) lt = absurd (omega (arith, lt))

-- the row of a STREAM, by the bits of its type
pub row_of_stream : (t : ℕ) → 8 ≤ t → t < 16
    → row_of t ≡ Some (stream_row (not (eqb (bit_and t 4) 0)) (not (eqb (bit_and t 2) 0)) (not (eqb (bit_and t 1) 0)))
row_of_stream t low high =
    let e : 8 + (t - 8) ≡ t = omega arith in
    subst (λ (u : ℕ). row_of u ≡ Some (stream_row (not (eqb (bit_and u 4) 0)) (not (eqb (bit_and u 2) 0))
    (not (eqb (bit_and u 1) 0)))) e (above_eight (t - 8) (omega arith))

all_well : List (ℕ × Row) → Bool
all_well [] = true
all_well (entry ∷ entries) = is_well entry.1.fields && all_well entries

first_and : (b c : Bool) → (b && c) ≡ true → (b ≡ true) × (c ≡ true)
first_and true c h = (refl, h)
first_and false c h = absurd cc

found_well : (test : ℕ → Bool) (entries : List (ℕ × Row)) (r : Row) → all_well entries ≡ true
    → lookup test entries ≡ Some r → is_well r.fields ≡ true
unfolding all_well
found_well test [] r well e = absurd cc
found_well test (entry ∷ entries) r well e =
    let w = first_and (is_well entry.1.fields) (all_well entries) well in
    elim (cases_bool (test entry.0)) [
      | inl passes ↦ let here : Some entry.1 ≡ Some r = rw passes at e in let same : entry.1
          ≡ r = cc in subst (λ (x : Row). is_well x.fields ≡ true) same w.0
      | inr fails ↦ found_well test entries r w.1 (rw fails at e)
    ]

-- each row of the table has a field that takes all that is left only at its end
pub row_is_well : (t : ℕ) (r : Row) → row_of t ≡ Some r → is_well r.fields ≡ true
unfolding all_well
row_is_well t r e = found_well (λ u. eqb t u) rows r refl e
