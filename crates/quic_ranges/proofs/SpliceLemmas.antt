-- What edits of a list of runs leave.
use Rattle.std.proofs.Common.{◌≡◌, ℕ, Bool, ◌+◌, ◌≤◌, suc, zero, List, [], ◌∷◌, ◌++◌, length, take, drop, set, refl, ap, ◌∙◌, arith}
use Rattle.std.specs.List.{insert, remove_range}
use Rattle.std.specs.declared.ops.Range.{Range}
use Rattle.quic_ranges.specs.declared.range_set.sorted_runs.Splice.{Splice}
use Rattle.quic_ranges.specs.Runs.{IsRunsOf}
use Rattle.quic_ranges.specs.Splices.{Splices, after_splice}
use Rattle.quic_ranges.proofs.RunsLemmas.{IsRunsOf-unique}

-- what is written over elements from i on
pub set-one : {X : Type 0} (xs : List X) (i m : ℕ) (v : X) → m ≡ i + 1 → m ≤ length xs
    → set xs i v ≡ take i xs ++ v ∷ drop m xs
set-one [] i m v e le = absurd (omega arith)
set-one (x ∷ xs) zero m v e le = let one : 1 ≡ m = omega arith in ap (λ k. v ∷ drop k (x ∷ xs)) one
set-one (x ∷ xs) (suc i) zero v e le = absurd (omega arith)
set-one (x ∷ xs) (suc i) (suc m) v e le = ap (λ l. x ∷ l) (set-one xs i m v (omega arith) (omega arith))

pub set-two : {X : Type 0} (xs : List X) (i j m : ℕ) (u v : X) → j ≡ i + 1 → m ≡ i + 2 → m ≤ length xs
    → set (set xs i u) j v ≡ take i xs ++ (u ∷ v ∷ drop m xs)
set-two [] i j m u v e e' le = absurd (omega arith)
set-two (x ∷ []) zero j m u v e e' le = absurd (omega arith)
set-two (x ∷ y ∷ xs) zero j m u v e e' le =
    let one : 1 ≡ j = omega arith in
    let two : 2 ≡ m = omega arith in
    rw (← one) (ap (λ k. u ∷ v ∷ drop k (x ∷ y ∷ xs)) two)
set-two (x ∷ xs) (suc i) zero m u v e e' le = absurd (omega arith)
set-two (x ∷ xs) (suc i) (suc j) zero u v e e' le = absurd (omega arith)
set-two (x ∷ xs) (suc i) (suc j) (suc m) u v e e' le =
    ap (λ l. x ∷ l) (set-two xs i j m u v (omega arith) (omega arith) (omega arith))

front : {X : Type 0} (xs zs : List X) (f g : ℕ) → f ≤ g → g ≤ length xs → take f (take g xs ++ zs) ≡ take f xs
front xs zs zero g le le' = refl
front xs zs (suc f) zero le le' = absurd (omega arith)
front [] zs (suc f) (suc g) le le' = absurd (omega arith)
front (x ∷ xs) zs (suc f) (suc g) le le' = ap (λ l. x ∷ l) (front xs zs f g (omega arith) (omega arith))

back : {X : Type 0} (xs zs : List X) (g : ℕ) → g ≤ length xs → drop g (take g xs ++ zs) ≡ zs
back xs zs zero le = refl
back [] zs (suc g) le = absurd (omega arith)
back (x ∷ xs) zs (suc g) le = back xs zs g (omega arith)

behind : {X : Type 0} (xs zs : List X) (v : X) (t g : ℕ) → g ≡ t + 1 → t ≤ length xs → drop g (take t xs ++ v ∷ zs) ≡ zs
behind xs zs v zero g e le = let one : 1 ≡ g = omega arith in rw (← one) refl
behind [] zs v (suc t) g e le = absurd (omega arith)
behind (x ∷ xs) zs v (suc t) zero e le = absurd (omega arith)
behind (x ∷ xs) zs v (suc t) (suc g) e le = behind xs zs v t g (omega arith) (omega arith)

-- ys still has the elements before f, and after g those that were from t on
pub record Holds {X : Type 0} (xs ys : List X) (f t g : ℕ) : Type 0 where
  pub before : take f ys ≡ take f xs
  pub after : drop g ys ≡ drop t xs

-- that is so if one element is inserted at t,
pub Holds-insert : {X : Type 0} (xs ys : List X) (f t g : ℕ) (v : X) → f ≤ t → t ≤ length xs → g ≡ t + 1
    → ys ≡ insert xs t v → Holds xs ys f t g
Holds-insert xs ys f t g v le le' e is =
    rw is (record { before = front xs (v ∷ drop t xs) f t le le'; after = behind xs (drop t xs) v t g e le' })

-- if those from g to below t are removed,
pub Holds-drain : {X : Type 0} (xs ys : List X) (f t g : ℕ) → f ≤ g → g ≤ length xs → ys ≡ remove_range xs g t
    → Holds xs ys f t g
Holds-drain xs ys f t g le le' is =
    rw is (record { before = front xs (drop t xs) f g le le'; after = back xs (drop t xs) g le' })

-- or if nothing changes
pub Holds-same : {X : Type 0} (xs ys : List X) (f t g : ℕ) → g ≡ t → ys ≡ xs → Holds xs ys f t g
Holds-same xs ys f t g e is = rw (is, e) (record { before = refl; after = refl })

-- what is then written from f to below g replaces what was from f to below t
pub spliced : {X : Type 0} (xs ys ws vs : List X) (f t g : ℕ) → Holds xs ys f t g → ws ≡ take f ys ++ (vs ++ drop g ys)
    → ws ≡ take f xs ++ (vs ++ drop t xs)
spliced xs ys ws vs f t g h e = e ∙ ap (λ l. l ++ (vs ++ drop g ys)) h.before ∙ ap (λ l. take f xs ++ (vs ++ l)) h.after

drop-front : {X : Type 0} (xs zs : List X) (k f f' : ℕ) → f' ≡ k + f → k ≤ length xs
    → drop k (take f' xs ++ zs) ≡ take f (drop k xs) ++ zs
drop-front xs zs zero f f' e le = let same : f' ≡ f = omega arith in ap (λ i. take i xs ++ zs) same
drop-front [] zs (suc k) f f' e le = absurd (omega arith)
drop-front (x ∷ xs) zs (suc k) f zero e le = absurd (omega arith)
drop-front (x ∷ xs) zs (suc k) f (suc f') e le = drop-front xs zs k f f' (omega arith) (omega arith)

drop-both : {X : Type 0} (xs : List X) (k t t' : ℕ) → t' ≡ k + t → k ≤ length xs → drop t' xs ≡ drop t (drop k xs)
drop-both xs zero t t' e le = let same : t' ≡ t = omega arith in ap (λ i. drop i xs) same
drop-both [] (suc k) t t' e le = absurd (omega arith)
drop-both (x ∷ xs) (suc k) t zero e le = absurd (omega arith)
drop-both (x ∷ xs) (suc k) t (suc t') e le = drop-both xs k t t' (omega arith) (omega arith)

-- the same of the elements after the first k
pub spliced-behind : {X : Type 0} (xs ys ws vs : List X) (k f t f' t' g : ℕ) → k ≤ length xs → f' ≡ k + f → t' ≡ k + t
    → Holds xs ys f' t' g → ws ≡ take f' ys ++ (vs ++ drop g ys)
    → drop k ws ≡ take f (drop k xs) ++ (vs ++ drop t (drop k xs))
spliced-behind xs ys ws vs k f t f' t' g le ef et h e =
    ap (drop k) (spliced xs ys ws vs f' t' g h e) ∙ drop-front xs (vs ++ drop t' xs) k f f' ef le
    ∙ ap (λ l. take f (drop k xs) ++ (vs ++ l)) (drop-both xs k t t' et le)

-- a splice that makes one more run does so whichever list the new set has
pub length-spliced : (p : ℕ → Bool) (rs ss : List (Range ℕ)) (s : Splice) → Splices p rs s
    → length (after_splice rs s) ≡ length rs + 1 → IsRunsOf p ss → length ss ≡ length rs + 1
length-spliced p rs ss s splices more h = ap length (IsRunsOf-unique p ss (after_splice rs s) h splices.runs) ∙ more
