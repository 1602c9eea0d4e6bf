use Rattle.std.proofs.Common.{◌≡◌, ℕ, List, ◌++◌, length, take, drop, Bool, true, false, ◌&&◌, refl, sym, ap, ◌∙◌, subst, arith}
use Rattle.std.specs.Prelude.{nat_eq}
use Rattle.std.specs.Cmp.Lexicographic.{other_text, pointwise, same_text}
use Rattle.std.specs.Int.{from_be_bytes, w64}
use Rattle.std.proofs.lemmas.Bool.Decides.{nat_tests}
use Rattle.std.proofs.lemmas.List.{length-drop, length-take-le, take-append-drop}
use Rattle.quic_base.specs.Number.{AreBytes}
use Rattle.quic_base.proofs.Numbers.{back_bytes, from_be_8, front_bytes, num_injective}
use Rattle.quic_base.proofs.ids.ResetTokenPartialEq.eq.Goals as goal

one_word : (a b : List ℕ) → length a ≡ 8 → length b ≡ 8 → AreBytes a → AreBytes b
    → from_be_bytes w64 a ≡ from_be_bytes w64 b → a ≡ b
one_word a b eight as_many fits fit same =
    num_injective a b fits fit (eight ∙ sym as_many) (sym (from_be_8 a eight) ∙ same ∙ from_be_8 b as_many)

same_halves : (a b : List ℕ) → length a ≡ 16 → length b ≡ 16 → AreBytes a → AreBytes b
    → from_be_bytes w64 (take 8 a) ≡ from_be_bytes w64 (take 8 b)
    → from_be_bytes w64 (drop 8 a) ≡ from_be_bytes w64 (drop 8 b) → a ≡ b
same_halves a b long as_long fits fit first last =
    let whole : take 8 a ++ drop 8 a ≡ a = take-append-drop 8 a in
    let other : take 8 b ++ drop 8 b ≡ b = take-append-drop 8 b in
    let whole_fits : AreBytes (take 8 a ++ drop 8 a) = subst AreBytes (sym whole) fits in
    let other_fits : AreBytes (take 8 b ++ drop 8 b) = subst AreBytes (sym other) fit in
    let fronts : take 8 a ≡ take 8 b =
    one_word (take 8 a) (take 8 b) (length-take-le 8 a (omega (arith, long))) (length-take-le 8 b (omega (arith, as_long)))
    (front_bytes (take 8 a) (drop 8 a) whole_fits) (front_bytes (take 8 b) (drop 8 b) other_fits) first in
    let backs : drop 8 a ≡ drop 8 b =
    one_word (drop 8 a) (drop 8 b) (omega (arith, length-drop 8 a, long)) (omega (arith, length-drop 8 b, as_long))
    (back_bytes (take 8 a) (drop 8 a) whole_fits) (back_bytes (take 8 b) (drop 8 b) other_fits) last in
    let joined : take 8 a ++ drop 8 a ≡ take 8 b ++ drop 8 b = cc in
    sym whole ∙ joined ∙ other

both : (x y p q : ℕ) → x ≡ y → p ≡ q → (nat_eq x y && nat_eq p q) ≡ true
both x y p q first last = grind (arith, nat_tests)

are_both : (x y p q : ℕ) → true ≡ (nat_eq x y && nat_eq p q) → (x ≡ y) × (p ≡ q)
are_both x y p q holds = (grind (arith, nat_tests), grind (arith, nat_tests))

module _ (a b : List ℕ) (x y p q : ℕ) (long : length a ≡ 16) (as_long : length b ≡ 16) (fits : AreBytes a)
    (fit : AreBytes b) (x_is : x ≡ from_be_bytes w64 (take 8 a)) (y_is : y ≡ from_be_bytes w64 (take 8 b))
    (p_is : p ≡ from_be_bytes w64 (drop 8 a)) (q_is : q ≡ from_be_bytes w64 (drop 8 b)) where
  differ : false ≡ pointwise nat_eq a b → (told : Bool) → told ≡ (nat_eq x y && nat_eq p q) → told ≡ false
  differ other true holds =
      let two = are_both x y p q holds in
      absurd (other_text a b other
      (same_halves a b long as_long fits fit (sym x_is ∙ two.0 ∙ y_is) (sym p_is ∙ two.1 ∙ q_is)))
  differ other false holds = refl

  by_test : (told : Bool) → told ≡ pointwise nat_eq a b → (nat_eq x y && nat_eq p q) ≡ told
  by_test true same =
      let e : a ≡ b = same_text a b same in
      both x y p q (x_is ∙ ap (λ (bytes : List ℕ). from_be_bytes w64 (take 8 bytes)) e ∙ sym y_is)
      (p_is ∙ ap (λ (bytes : List ℕ). from_be_bytes w64 (drop 8 bytes)) e ∙ sym q_is)
  by_test false other = differ other (nat_eq x y && nat_eq p q) refl

pub returns : goal.returns
returns c =
    let ours = c.halves-first.ensures in
    let theirs = c.halves-other_first.ensures in
    by_test c.args.self.now c.args.other.now _ _ _ _ ours.width theirs.width ours.bytes theirs.bytes ours.first
    theirs.first ours.last theirs.last (pointwise nat_eq c.args.self.now c.args.other.now) refl
