-- A set to which the runs of another are applied, one after the other.
use Rattle.std.proofs.Common.{◌≡◌, ℕ, Bool, false, ◌&&◌, ◌||◌, not, List, [], ◌∷◌, ◌++◌, ap, ◌∙◌, arith, Result, Ok, Err, OnErr}
use Rattle.std.proofs.lemmas.Bool.Decides.{nat_tests}
use Rattle.std.specs.declared.ops.Range.{Range}
use Rattle.quic_ranges.specs.Runs.{in_range, member, IsRunsOf, in_union, in_difference, in_sum, in_subtraction}
use Rattle.quic_ranges.proofs.SubtractLemmas.{member-append}

-- one run more
pub IsRunsOf-sum_step : (rs done cur after : List (Range ℕ)) (r : Range ℕ) → IsRunsOf (in_sum rs done) cur
    → IsRunsOf (in_union cur r) after → IsRunsOf (in_sum rs (done ++ r ∷ [])) after
IsRunsOf-sum_step rs done cur after r h k = (
  k.0,
  λ y. k.1 y ∙ step (member rs y) (member done y) (in_range r y) (member cur y) (member (done ++ r ∷ []) y)
      (h.1 y) (member-append y done (r ∷ [])),
) where
  step : (m d i c e : Bool) → c ≡ (m || d) → e ≡ (d || (i || false)) → (c || i) ≡ (m || e)
  step m d i c e p q = grind (arith, nat_tests)

pub IsRunsOf-subtraction_step : (rs done cur after : List (Range ℕ)) (r : Range ℕ)
    → IsRunsOf (in_subtraction rs done) cur → IsRunsOf (in_difference cur r) after
    → IsRunsOf (in_subtraction rs (done ++ r ∷ [])) after
IsRunsOf-subtraction_step rs done cur after r h k = (
  k.0,
  λ y. k.1 y ∙ step (member rs y) (member done y) (in_range r y) (member cur y) (member (done ++ r ∷ []) y)
      (h.1 y) (member-append y done (r ∷ [])),
) where
  step : (m d i c e : Bool) → c ≡ (m && not d) → e ≡ (d || (i || false)) → (c && not i) ≡ (m && not e)
  step m d i c e p q = grind (arith, nat_tests)

-- what always holds also holds on an error
pub on_err : {T E : Type 0} (r : Result T E) (P : Type 0) → P → OnErr r P
on_err (Ok v) P p = tt
on_err (Err e) P p = p

-- if nothing would change, no run of the other set changes anything
pub IsRunsOf-sum_kept : (rs others done rest cur : List (Range ℕ)) (r : Range ℕ) → IsRunsOf (in_sum rs others) rs
    → others ≡ done ++ r ∷ rest → IsRunsOf (in_sum rs done) cur → IsRunsOf (in_union cur r) cur
IsRunsOf-sum_kept rs others done rest cur r h parts k = (
  k.0,
  λ y.
      step (member rs y) (member done y) (in_range r y) (member rest y) (member cur y) (member others y) (h.1 y)
      (ap (λ (ss : List (Range ℕ)). member ss y) parts ∙ member-append y done (r ∷ rest)) (k.1 y),
) where
  step : (m d i t c o : Bool) → m ≡ (m || o) → o ≡ (d || (i || t)) → c ≡ (m || d) → c ≡ (c || i)
  step m d i t c o p q s = grind (arith, nat_tests)

pub IsRunsOf-subtraction_kept : (rs others done rest cur : List (Range ℕ)) (r : Range ℕ)
    → IsRunsOf (in_subtraction rs others) rs → others ≡ done ++ r ∷ rest
    → IsRunsOf (in_subtraction rs done) cur → IsRunsOf (in_difference cur r) cur
IsRunsOf-subtraction_kept rs others done rest cur r h parts k = (
  k.0,
  λ y.
      step (member rs y) (member done y) (in_range r y) (member rest y) (member cur y) (member others y) (h.1 y)
      (ap (λ (ss : List (Range ℕ)). member ss y) parts ∙ member-append y done (r ∷ rest)) (k.1 y),
) where
  step : (m d i t c o : Bool) → m ≡ (m && not o) → o ≡ (d || (i || t)) → c ≡ (m && not d) → c ≡ (c && not i)
  step m d i t c o p q s = grind (arith, nat_tests)
