-- What is left of a set as the ranges of an ACK are removed from it, one after another.
use Rattle.std.proofs.Common.{◌≡◌, ℕ, ◌+◌, ◌<◌, ◌≤◌, Bool, true, false, ◌&&◌, ◌||◌, not, List, [], ◌∷◌, refl, ap, ◌∙◌, arith}
use Rattle.std.specs.Prelude.{nat_le, nat_lt}
use Rattle.std.specs.declared.ops.Range.{Range}
use Rattle.std.proofs.lemmas.Bool.Decides.{nat_tests}
use Rattle.quic_acked.specs.Acked.{is_acked}
use Rattle.quic_frame_fields.specs.Sets.{is_in}
use Rattle.quic_ranges.specs.Runs.{in_difference, in_subtraction, member, IsRunsOf}

-- What is left of the set and isn't in the ranges to come is what is in the set and in none of the ranges. All is below
-- an end.
pub record IsLeft (runs : List (Range ℕ)) (ranges : List (ℕ × ℕ)) (end : ℕ) (left : List (Range ℕ)) (to_come : List (ℕ × ℕ)) : Type 0
  where
    pub below : (n : ℕ) → member left n ≡ true → n < end
    pub same : (n : ℕ) → (member left n && not (is_in to_come n)) ≡ (member runs n && not (is_in ranges n))

one_less : (n least greatest above end : ℕ) (m i x : Bool) → (m ≡ true → n < end) → (greatest < end → above ≡ greatest + 1)
    → (end ≤ greatest → above ≡ end) → x ≡ (m && not (nat_le least n && nat_lt n above))
    → (x && not i) ≡ (m && not ((nat_le least n && nat_le n greatest) || i))
one_less n least greatest above end false i x low up to is = is2 x i is where
  is2 : (x i : Bool) → x ≡ false → (x && not i) ≡ false
  is2 x i e = grind (arith, nat_tests)
one_less n least greatest above end true i x low up to is =
    let lt : n < end = low refl in
    grind (arith, nat_tests)

less : (m x t : Bool) → x ≡ (m && t) → x ≡ true → m ≡ true
less m x t e is = grind (arith, nat_tests)

pub goes_on : (runs : List (Range ℕ)) (ranges : List (ℕ × ℕ)) (end : ℕ) (left new : List (Range ℕ)) (range : ℕ × ℕ) (to_come : List (ℕ × ℕ)) (above : ℕ)
    → IsLeft runs ranges end left (range ∷ to_come)
    → (range.1 < end → above ≡ range.1 + 1) → (end ≤ range.1 → above ≡ end)
    → IsRunsOf (in_difference left (record { start = range.0; end = above })) new
    → IsLeft runs ranges end new to_come
goes_on runs ranges end left new range to_come above inv up to is = record {
  below = λ n e. inv.below n (less (member left n) (member new n) _ (is.1 n) e);
  same = λ n. one_less n range.0 range.1 above end (member left n) (is_in to_come n) (member new n) (inv.below n) up to (is.1 n)
      ∙ inv.same n;
}

none_left : (m x : Bool) → (x && not false) ≡ m → x ≡ m
none_left m x e = grind (arith, nat_tests)

both : (m i : Bool) → (m && not (m && not i)) ≡ (m && i)
both m i = grind (arith, nat_tests)

pub is_done : (runs : List (Range ℕ)) (ranges : List (ℕ × ℕ)) (end : ℕ) (left acked : List (Range ℕ))
    → IsLeft runs ranges end left [] → IsRunsOf (in_subtraction runs left) acked
    → IsRunsOf (is_acked runs ranges) acked
is_done runs ranges end left acked inv is = (
  is.0,
  λ n. is.1 n ∙ ap (λ (b : Bool). member runs n && not b) (none_left _ (member left n) (inv.same n))
      ∙ both (member runs n) (is_in ranges n),
)
