-- How connection ids compare: by length, then by bytes; and the laws of an order. Their proofs are here because an
-- implementation proves its trait's laws only from definitions.
use Rattle.std.specs.Prelude.{◌≡◌, ◌<◌, ℕ, List, length, nat_eq}
use Rattle.std.specs.declared.cmp.Ordering.{Ordering}
use Rattle.std.specs.declared.cmp.Ordering.TheVariants.{Less, Equal, Greater}
use Rattle.std.specs.Cmp.{IsTotalOrder, ranks}
use Rattle.std.specs.Cmp.Rules.{comparing}
use Rattle.std.specs.Cmp.Lexicographic.{pointwise, slice_cmp, unequal, texts_ties}
use Rattle.std.specs.Ordering.{nat_cmp, on, then_cmp, is_eq, ordering_then, MatchOrdering, eq_by_cmp}
use Rattle.std.proofs.Common.{rules, arith}

abbrev pub id_cmp : List ℕ → List ℕ → Ordering
id_cmp = then_cmp (on length nat_cmp) (slice_cmp nat_cmp)

pub id_total : IsTotalOrder id_cmp
id_total = search (comparing, rules)

ties_at : (x y : List ℕ) (r : Ordering)
    → MatchOrdering r (length x < length y) (length x ≡ length y) (length y < length x)
    → pointwise nat_eq x y ≡ is_eq (ordering_then r (slice_cmp nat_cmp x y))
ties_at x y Less h = unequal nat_eq x y (λ e. omega arith)
ties_at x y Equal h = texts_ties x y
ties_at x y Greater h = unequal nat_eq x y (λ e. omega arith)

-- equal exactly when neither comes first
pub id_ties : (x y : List ℕ) → pointwise nat_eq x y ≡ eq_by_cmp id_cmp x y
id_ties x y = ties_at x y (nat_cmp (length x) (length y)) (ranks (length x) (length y))
