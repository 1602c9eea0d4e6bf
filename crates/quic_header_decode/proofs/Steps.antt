-- Steps of readers: what follows a field, a test or an error.
use Rattle.std.specs.Prelude.{◌≡◌, ℕ, ◌⊎◌, Bool, true, false, List, ◌++◌, length, take, drop, Option, Some, None, Result, Ok, Err, MatchResult}
use Rattle.std.proofs.Common.{sym, ap, subst, ◌∙◌, refl, cond, inl, inr}
use Rattle.std.specs.Option.{ok_or}
use Rattle.std.proofs.Math.Seq.{drop-append_seam, take-append_seam}
use Rattle.quic_header_decode.specs.Refusal.{Refusal}
use Rattle.quic_base.specs.Reading.{◌>>=◌}

pub bind_ok : {A B : Type 0} (r : Result A Refusal) (f : A → Result B Refusal) (y : B) → (r >>= f) ≡ Ok y
    → (x : A) × (r ≡ Ok x) × (f x ≡ Ok y)
bind_ok (Ok x) f y e = (x, refl, e)
bind_ok (Err r) f y e = absurd cc

pub match_ok : {A E : Type 0} (P : A → Type 0) (Q : E → Type 0) (r : Result A E) (x : A) → MatchResult r P Q → r ≡ Ok x
    → P x
match_ok P Q (Ok y) x m e = let same : y ≡ x = cc in subst P same m
match_ok P Q (Err y) x m e = absurd cc

pub option_ok : {A : Type 0} (o : Option A) (e : Refusal) (x : A) → ok_or o e ≡ Ok x → o ≡ Some x
option_ok (Some y) e x h = let same : y ≡ x = cc in ap (λ z. Some z) same
option_ok None e x h = absurd cc

pub chosen : {A : Type 0} (b : Bool) (x y z : A) → cond b x y ≡ z → ((b ≡ true) × (x ≡ z)) ⊎ ((b ≡ false) × (y ≡ z))
chosen true x y z e = inl (refl, e)
chosen false x y z e = inr (refl, e)

pub none_some : {A : Type 0} (x : A) → (let n : Option A = None in n) ≡ Some x → ⊥
none_some x e = cc

pub some_same : {A : Type 0} {x y : A} → Some x ≡ Some y → x ≡ y
some_same e = cc

pub pair_parts : {A B : Type 0} {a c : A} {b d : B} → (let p : A × B = (a, b) in p) ≡ (c, d) → (a ≡ c) × (b ≡ d)
pair_parts e = (ap (λ p. p.0) e, ap (λ p. p.1) e)

pub then_ok : {A B : Type 0} (r : Result A Refusal) (f : A → Result B Refusal) (x : A) (y : Result B Refusal) → r ≡ Ok x
    → f x ≡ y → (r >>= f) ≡ y
then_ok (Ok z) f x y e h = let same : z ≡ x = cc in ap f same ∙ h
then_ok (Err z) f x y e h = absurd cc

pub then_err : {A B : Type 0} (r : Result A Refusal) (f : A → Result B Refusal) (e : Refusal) → r ≡ Err e
    → (r >>= f) ≡ Err e
then_err (Ok z) f e h = absurd cc
then_err (Err z) f e h = let same : z ≡ e = cc in ap (λ (x : Refusal). Err x) same

pub otherwise : {A : Type 0} (b : Bool) (x y z : A) → b ≡ false → y ≡ z → cond b x y ≡ z
otherwise true x y z e h = absurd cc
otherwise false x y z e h = h

pub taken : {A : Type 0} (b : Bool) (x y z : A) → b ≡ true → x ≡ z → cond b x y ≡ z
taken true x y z e h = h
taken false x y z e h = absurd cc

pub option_cases : {A : Type 0} (o : Option A) → (o ≡ None) ⊎ ((x : A) × (o ≡ Some x))
option_cases None = inl refl
option_cases (Some x) = inr (x, refl)

pub some_of : {A : Type 0} (o : Option A) (e : Refusal) (x : A) → o ≡ Some x → ok_or o e ≡ Ok x
some_of {A} o e x h = ap (λ (p : Option A). ok_or p e) h

pub none_of : {A : Type 0} (o : Option A) (e : Refusal) → o ≡ None → ok_or o e ≡ Err e
none_of {A} o e h = ap (λ (p : Option A). ok_or p e) h

pub some_pair : {A B : Type 0} (a c : A) (b d : B) → a ≡ c → b ≡ d
    → (let o : Option (A × B) = Some (a, b) in o) ≡ Some (c, d)
some_pair {A} {B} a c b d e f =
    ap (λ (x : A). let o : Option (A × B) = Some (x, b) in o) e
    ∙ ap (λ (y : B). let o : Option (A × B) = Some (c, y) in o) f

pub take_front : (xs ys : List ℕ) (n : ℕ) → length xs ≡ n → take n (xs ++ ys) ≡ xs
take_front xs ys n e = ap (λ (k : ℕ). take k (xs ++ ys)) (sym e) ∙ take-append_seam xs ys

pub drop_front : (xs ys : List ℕ) (n : ℕ) → length xs ≡ n → drop n (xs ++ ys) ≡ ys
drop_front xs ys n e = ap (λ (k : ℕ). drop k (xs ++ ys)) (sym e) ∙ drop-append_seam xs ys

pub bool_cases : (b : Bool) → (b ≡ true) ⊎ (b ≡ false)
bool_cases true = inl refl
bool_cases false = inr refl

pub bind_err : {A B : Type 0} (r : Result A Refusal) (f : A → Result B Refusal) (e : Refusal) → (r >>= f) ≡ Err e
    → (r ≡ Err e) ⊎ ((x : A) × (r ≡ Ok x) × (f x ≡ Err e))
bind_err (Ok x) f e h = inr (x, refl, h)
bind_err (Err z) f e h = let same : z ≡ e = cc in inl (ap (λ (y : Refusal). Err y) same)

pub option_err : {A : Type 0} (o : Option A) (e f : Refusal) → ok_or o e ≡ Err f → (o ≡ None) × (e ≡ f)
option_err (Some x) e f h = absurd cc
option_err None e f h = (refl, (let same : e ≡ f = cc in same))

-- a step that consumes a field, or fails
pub step : {A B : Type 0} (o : Option A) (r : Refusal) (f : A → Result B Refusal) (e : Refusal)
    → (ok_or o r >>= f) ≡ Err e → ((o ≡ None) × (r ≡ e)) ⊎ ((x : A) × (o ≡ Some x) × (f x ≡ Err e))
step (Some x) r f e h = inr (x, refl, h)
step None r f e h = inl (refl, (let same : r ≡ e = cc in same))

pub err_same : {A : Type 0} (r e : Refusal) → (let q : Result A Refusal = Err r in q) ≡ Err e → r ≡ e
err_same r e h = cc

pub ok_err : {A : Type 0} (x : A) (e : Refusal) → (let q : Result A Refusal = Ok x in q) ≡ Err e → ⊥
ok_err x e h = cc

pub ok_pair : {A B E : Type 0} {a c : A} {b d : B} → (let r : Result (A × B) E = Ok (a, b) in r) ≡ Ok (c, d)
    → (a ≡ c) × (b ≡ d)
ok_pair {A} {B} {E} {a} {c} {b} {d} e = let same : (let p : A × B = (a, b) in p) ≡ (c, d) = cc in pair_parts same

pub err_ok : {A : Type 0} (r : Refusal) (x : A) → (let q : Result A Refusal = Err r in q) ≡ Ok x → ⊥
err_ok r x e = cc
