-- Steps of a reading.
use Rattle.std.proofs.Common.{◌≡◌, ℕ, Bool, true, false, cond, List, [], ◌∷◌, ◌++◌, Result, Ok, Err, refl, ap, inl, inr}
use Rattle.std.specs.Prelude.{◌⊎◌}
use Rattle.quic_frame_fields.specs.declared.frame.fault.Fault.{Fault}
use Rattle.quic_base.specs.Reading.{◌>>=◌}

-- the value of a step that did not fail
pub bind_ok : {A B : Type 0} (r : Result A Fault) (f : A → Result B Fault) (y : B) → (r >>= f) ≡ Ok y
    → (x : A) × (r ≡ Ok x) × (f x ≡ Ok y)
bind_ok (Ok x) f y e = (x, refl, e)
bind_ok (Err d) f y e = absurd cc

-- a test that did not fail
pub guard_ok : {A : Type 0} (b : Bool) (d : Fault) (x y : A) → cond b (Err d) (Ok x) ≡ Ok y → (b ≡ false) × (x ≡ y)
guard_ok true d x y e = absurd cc
guard_ok false d x y e = (refl, cc)

abbrev done : {A : Type 0} → A → Result A Fault
done x = Ok x

pub ok_is : {A : Type 0} (x y : A) → done x ≡ done y → x ≡ y
ok_is x y e = cc

abbrev pub failure : {A : Type 0} → Fault → Result A Fault
failure e = Err e

failure_is : {A B : Type 0} (d e : Fault) → failure {A = A} d ≡ failure e → failure {A = B} d ≡ failure e
failure_is d e h = let same : d ≡ e = cc in ap failure same

-- which step failed
pub bind_err : {A B : Type 0} (r : Result A Fault) (f : A → Result B Fault) (e : Fault) → (r >>= f) ≡ Err e
    → (r ≡ Err e) ⊎ ((x : A) × (r ≡ Ok x) × (f x ≡ Err e))
bind_err (Ok x) f e h = inr (x, refl, h)
bind_err (Err d) f e h = inl (failure_is d e h)

pub mapped_err : {A B : Type 0} (r : Result A Fault) (f : A → B) (e : Fault) → (r >>= λ x. Ok (f x)) ≡ Err e → r ≡ Err e
mapped_err (Ok x) f e h = absurd cc
mapped_err (Err d) f e h = failure_is d e h

pub err_of : {A : Type 0} (r : Result A Fault) → ((x : A) → r ≡ Ok x → ⊥) → (e : Fault) × (r ≡ Err e)
err_of (Ok x) never = absurd (never x refl)
err_of (Err e) never = (e, refl)

pub only_fault : {A : Type 0} (b : Bool) (d e : Fault) (x : A) → cond b (Err d) (Ok x) ≡ Err e → e ≡ d
only_fault true d e x h = cc
only_fault false d e x h = absurd cc

pub only_fault_else : {A : Type 0} (b : Bool) (d e : Fault) (x : A) → cond b (Ok x) (Err d) ≡ Err e → e ≡ d
only_fault_else true d e x h = absurd cc
only_fault_else false d e x h = cc

pub true_is_not_false : true ≡ false → ⊥
true_is_not_false h = cc

pub ok_is_not_err : {A : Type 0} {x : A} {e : Fault} → done x ≡ Err e → ⊥
ok_is_not_err h = cc

pub append_is_nil : (front back : List ℕ) → front ++ back ≡ [] → back ≡ []
append_is_nil [] back e = e
append_is_nil (b ∷ front) back e = absurd cc
