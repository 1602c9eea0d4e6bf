-- A set that is made of the ranges of an ACK.
use Rattle.std.proofs.Common.{◌≡◌, ℕ, ◌+◌, ◌≤◌, ◌<◌, ◌^◌, Bool, true, false, List, [], ◌∷◌, refl, sym, ap, ◌∙◌, arith}
use Rattle.std.specs.Prelude.{◌&&◌, ◌||◌, nat_le, nat_lt}
use Rattle.std.specs.declared.ops.Range.{Range}
use Rattle.std.proofs.lemmas.Bool.Decides.{nat_tests}
use Rattle.quic_frame_fields.specs.Field.{AreApart}
use Rattle.quic_frame_fields.specs.Sets.{is_in}
use Rattle.quic_ranges.specs.Runs.{member, in_union, IsMaximalRuns, IsRunsOf}

-- What is in the new set and what is left of the ranges make up the set; the ranges that are left are apart.
pub record IsUnderWay (set again : List (Range ℕ)) (left : List (ℕ × ℕ)) : Type 0 where
  pub same : (n : ℕ) → (member again n || is_in left n) ≡ member set n
  pub apart : AreApart left
  pub maximal : IsMaximalRuns again

pub begins : (set : List (Range ℕ)) (left : List (ℕ × ℕ)) → ((n : ℕ) → is_in left n ≡ member set n) → AreApart left
    → IsUnderWay set [] left
begins set left same apart = record { same = same; apart = apart; maximal = tt }

apart_rest : (range : ℕ × ℕ) (others : List (ℕ × ℕ)) → AreApart (range ∷ others) → (range.0 ≤ range.1) × AreApart others
apart_rest range [] a = (a, tt)
apart_rest range (below ∷ others) a = (a.0, a.2)

within : (least greatest : ℕ) → least ≤ greatest → (nat_le least greatest && nat_le greatest greatest) ≡ true
within least greatest le = grind (arith, nat_tests)

or_true : (a b c : Bool) → b ≡ true → (a || (b || c)) ≡ true
or_true true b c e = refl
or_true false true c e = refl
or_true false false c e = absurd cc

-- the greatest number of the next range is in the set
pub greatest_fits : (set again : List (Range ℕ)) (least greatest : ℕ) (others : List (ℕ × ℕ))
    → IsUnderWay set again ((least, greatest) ∷ others)
    → ((n : ℕ) → member set n ≡ true → n < 2 ^ 62) → greatest < 2 ^ 62
greatest_fits set again least greatest others w small =
    let there =
    or_true (member again greatest) (nat_le least greatest && nat_le greatest greatest) (is_in others greatest)
    (within least greatest (apart_rest (least, greatest) others w.apart).0) in
    small greatest (sym (w.same greatest) ∙ there)

same_bound : (n greatest : ℕ) → nat_lt n (greatest + 1) ≡ nat_le n greatest
same_bound n greatest = by_tests (nat_lt n (greatest + 1)) (nat_le n greatest) refl refl
  where
    by_tests : (a b : Bool) → nat_lt n (greatest + 1) ≡ a → nat_le n greatest ≡ b → a ≡ b
    by_tests true true e f = refl
    by_tests false false e f = refl
    by_tests true false e f = grind (arith, nat_tests)
    by_tests false true e f = grind (arith, nat_tests)

or_first : (a b c : Bool) → ((a || b) || c) ≡ (a || (b || c))
or_first true b c = refl
or_first false b c = refl

-- a range was put into the set
pub goes_on : (set again after : List (Range ℕ)) (least greatest : ℕ) (others : List (ℕ × ℕ))
    → IsUnderWay set again ((least, greatest) ∷ others)
    → IsRunsOf (in_union again (record { start = least; end = greatest + 1 })) after
    → IsUnderWay set after others
goes_on set again after least greatest others w put = record {
  same = λ n.
      let here : member after n ≡ (member again n || (nat_le least n && nat_le n greatest)) =
      put.1 n ∙ ap (λ (b : Bool). member again n || (nat_le least n && b)) (same_bound n greatest) in
      ap (λ (b : Bool). b || is_in others n) here
      ∙ or_first (member again n) (nat_le least n && nat_le n greatest) (is_in others n) ∙ w.same n;
  apart = (apart_rest (least, greatest) others w.apart).1;
  maximal = put.0;
}

or_false : (b : Bool) → (b || false) ≡ b
or_false true = refl
or_false false = refl

-- no range is left
pub is_again : (set again : List (Range ℕ)) → IsUnderWay set again []
    → ((rs ss : List (Range ℕ)) → IsMaximalRuns rs → IsMaximalRuns ss → ((y : ℕ) → member rs y ≡ member ss y) → rs ≡ ss)
    → IsMaximalRuns set
    → again ≡ set
is_again set again w unique maximal =
    unique again set w.maximal maximal (λ n. sym (or_false (member again n)) ∙ w.same n)
