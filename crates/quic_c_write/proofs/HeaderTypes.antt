-- Low types are known.
use Rattle.std.proofs.Common.{◌≡◌, ℕ, zero, suc, ◌<◌, ◌≤◌, Bool, true, false, eqb, Option, Some, None, refl, sym, subst, inl, inr, arith}
use Rattle.std.specs.Prelude.{◌≢◌, ◌⊎◌, ◌&&◌}
use Rattle.std.proofs.lemmas.Bool.{eqb-true, eqb-false}
use Rattle.quic_frame_fields.specs.Table.{Row, row_of}

abbrev pub is_some_row : Option Row → Bool
is_some_row None = false
is_some_row (Some r) = true

-- the types up to this one are known
abbrev all_up_to : ℕ → Bool
all_up_to zero = is_some_row (row_of 0)
all_up_to (suc n) = is_some_row (row_of (suc n)) && all_up_to n

both : (b c : Bool) → (b && c) ≡ true → (b ≡ true) × (c ≡ true)
both true c h = (refl, h)
both false c h = absurd cc

equal_or_less : (b : Bool) (n t : ℕ) → eqb t n ≡ b → t ≤ n → (t ≡ n) ⊎ (t < n)
equal_or_less true n t e le = inl (eqb-true t n e)
equal_or_less false n t e le =
    let other : t ≡ n → ⊥ = eqb-false t n e in
    inr (grind arith)

at_most : (n t : ℕ) → all_up_to n ≡ true → t ≤ n → is_some_row (row_of t) ≡ true
at_most zero t h le =
    let e : t ≡ 0 = omega arith in subst (λ (u : ℕ). is_some_row (row_of u) ≡ true) (sym e) h
at_most (suc n) t h le =
    let p = both (is_some_row (row_of (suc n))) (all_up_to n) h in
    elim (equal_or_less (eqb t (suc n)) (suc n) t refl le) [
      | inl e ↦ subst (λ (u : ℕ). is_some_row (row_of u) ≡ true) (sym e) p.0
      | inr less ↦ at_most n t p.1 (omega arith)
    ]

some_is : (r : Option Row) → is_some_row r ≡ true → r ≢ None
some_is None e n = absurd cc
some_is (Some r) e n = cc

pub low_known : (t : ℕ) → t ≤ 0x1f → row_of t ≢ None
low_known t le = some_is (row_of t) (at_most 0x1f t refl le)
