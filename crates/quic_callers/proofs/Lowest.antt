-- The first number of a set.
use Rattle.std.proofs.Common.{◌≡◌, ℕ, Bool, true, false, List, [], ◌∷◌, Option, None, Some, sym, ap, ◌∙◌, arith}
use Rattle.std.specs.Prelude.{nat_eq, ◌||◌, MatchOption}
use Rattle.std.specs.List.{list_any}
use Rattle.std.specs.declared.ops.Range.{Range}
use Rattle.std.proofs.lemmas.Bool.Decides.{nat_tests}
use Rattle.quic_ranges.specs.Numbers.{numbers_of}
use Rattle.quic_ranges.specs.Runs.{member}

same_number : (n : ℕ) → nat_eq n n ≡ true
same_number n = grind (arith, nat_tests)

pub first_number : (runs : List (Range ℕ)) (items left : List ℕ) (r : Option ℕ) → items ≡ numbers_of runs
    → MatchOption r ((items ≡ []) × (left ≡ [])) (λ x. items ≡ x ∷ left)
    → ((runs : List (Range ℕ)) (y : ℕ) → list_any (λ x. nat_eq x y) (numbers_of runs) ≡ member runs y)
    → MatchOption r ((n : ℕ) → member runs n ≡ false) (λ n. member runs n ≡ true)
first_number runs items left None is none members = λ n.
    sym (members runs n) ∙ ap (list_any (λ x. nat_eq x n)) (sym is ∙ none.0)
first_number runs items left (Some x) is first members =
    let one : (nat_eq x x || list_any (λ z. nat_eq z x) left) ≡ true =
    ap (λ (b : Bool). b || list_any (λ z. nat_eq z x) left) (same_number x) in
    sym (members runs x) ∙ ap (list_any (λ z. nat_eq z x)) (sym is ∙ first) ∙ one
