-- A number that is read is encoded, and one that is encoded is read.
use Rattle.std.proofs.Common.{◌≡◌, ℕ, zero, suc, ◌+◌, ◌-◌, ◌*◌, ◌/◌, ◌%◌, ◌^◌, ◌<◌, ◌≤◌, Bool, true, false, cond, ltb, List, [], ◌∷◌, ◌++◌, length, take, drop, Option, None, Some, refl, sym, ap, subst, ◌∙◌, arith}
use Rattle.std.proofs.lemmas.Bool.{ltb-false, le-ltb}
use Rattle.std.proofs.lemmas.Nat.{mul-add-lt}
use Rattle.std.proofs.lemmas.List.{take_at, drop_at, take-append-drop, length-append, length-take}
use Rattle.quic_base.specs.Number.{AreBytes, num}
use Rattle.quic_base.specs.Codec.{Takes, NoFront}
use Rattle.quic_base.specs.Varint.{Encodes}
use Rattle.quic_base.specs.Reading.{number_at}
use Rattle.quic_base.proofs.Numbers.{num_below, cons_bytes, front_bytes}
use Rattle.quic_base.proofs.Encodings.{takes_one}

-- how many bytes follow the first, and how large the number can be
record IsWidth (tag more : ℕ) : Type 0 where
  one_more : 2 ^ tag ≡ suc more
  limit : 2 ^ (8 * 2 ^ tag - 2) ≡ 64 * 256 ^ more

width_of : (tag : ℕ) → tag < 4 → IsWidth tag (2 ^ tag - 1)
width_of zero lt = record { one_more = refl; limit = refl }
width_of (suc zero) lt = record { one_more = refl; limit = refl }
width_of (suc (suc zero)) lt = record { one_more = refl; limit = refl }
width_of (suc (suc (suc zero))) lt = record { one_more = refl; limit = refl }
width_of (suc (suc (suc (suc n)))) lt = absurd (omega (arith, lt))

encoded_by : (b more n : ℕ) (t : List ℕ) → b < 256 → AreBytes t → length t ≡ more → IsWidth (b / 64) more
    → n ≡ b % 64 * 256 ^ more + num t → Encodes n (b ∷ t)
encoded_by b more n t lt fits len w n-is =
    let small : num t < 256 ^ more = subst (λ (k : ℕ). num t < 256 ^ k) len (num_below t fits) in
    let low : b % 64 < 64 = omega arith in
    let b-is : b * 256 ^ more ≡ (b / 64 * 64 + b % 64) * 256 ^ more = ap (λ (x : ℕ). x * 256 ^ more) (omega arith) in
    record {
      tag = b / 64;
      tag_fits = omega arith;
      bytes = cons_bytes b t lt fits;
      width = ap suc len ∙ sym w.one_more;
      fits = rw (w.limit, n-is) (omega (arith, mul-add-lt (b % 64) (256 ^ more) (num t) 64 low small));
      value = rw (w.limit, n-is, len) (omega (arith, b-is));
    }

-- a test that did not fail
guard_some : {A : Type 0} (b : Bool) (x y : A) → cond b None (Some x) ≡ Some y → (b ≡ false) × (x ≡ y)
guard_some true x y e = absurd cc
guard_some false x y e = (refl, cc)

pub number_taken : (bytes : List ℕ) (n : ℕ) (rest : List ℕ) → AreBytes bytes → number_at bytes ≡ Some (n, rest)
    → Takes (Encodes n) bytes rest
unfolding number_at
number_taken [] n rest fits e = absurd cc
number_taken (b ∷ bs) n rest fits e =
    let more = 2 ^ (b / 64) - 1 in
    let lt : b < 256 = fits 0 in
    let tag : b / 64 < 4 = omega arith in
    let g = guard_some (ltb (length bs) more) (b % 64 * 256 ^ more + num (take more bs), drop more bs) (n, rest) e in
    let long : more ≤ length bs = ltb-false _ _ g.0 in
    let n-is : b % 64 * 256 ^ more + num (take more bs) ≡ n = ap (λ (p : ℕ × List ℕ). p.0) g.1 in
    let rest-is : drop more bs ≡ rest = ap (λ (p : ℕ × List ℕ). p.1) g.1 in
    let whole : take more bs ++ drop more bs ≡ bs = take-append-drop more bs in
    let tail_fits : AreBytes (take more bs ++ drop more bs) = subst AreBytes (sym whole) (λ i. fits (suc i)) in
    let len : length (take more bs) ≡ more = omega (arith, length-take more bs) in
    record {
      front = b ∷ take more bs;
      split = ap (λ (t : List ℕ). b ∷ t) (sym whole ∙ ap (λ (t : List ℕ). take more bs ++ t) rest-is);
      is = encoded_by b more n (take more bs) lt (front_bytes (take more bs) (drop more bs) tail_fits) len
          (width_of (b / 64) tag) (sym n-is);
    }

-- a number cut into its tag and its value
record Cuts (tag b s n more : ℕ) : Type 0 where
  tag_is : b / 64 ≡ tag
  value : b % 64 * 256 ^ more + s ≡ n

cut : (tag b s n : ℕ) → tag < 4 → s < 256 ^ (2 ^ tag - 1) → n < 64 * 256 ^ (2 ^ tag - 1)
    → b * 256 ^ (2 ^ tag - 1) + s ≡ tag * (64 * 256 ^ (2 ^ tag - 1)) + n → Cuts tag b s n (2 ^ tag - 1)
cut zero b s n lt small fits e =
    record { tag_is = omega (arith, small, fits, e); value = omega (arith, small, fits, e) }
cut (suc zero) b s n lt small fits e =
    record { tag_is = omega (arith, small, fits, e); value = omega (arith, small, fits, e) }
cut (suc (suc zero)) b s n lt small fits e =
    record { tag_is = omega (arith, small, fits, e); value = omega (arith, small, fits, e) }
cut (suc (suc (suc zero))) b s n lt small fits e =
    record { tag_is = omega (arith, small, fits, e); value = omega (arith, small, fits, e) }
cut (suc (suc (suc (suc k)))) b s n lt small fits e = absurd (omega (arith, lt))

pub number_again : (n : ℕ) (front rest : List ℕ) → Encodes n front → number_at (front ++ rest) ≡ Some (n, rest)
unfolding number_at
number_again n [] rest v =
    let w = width_of v.tag v.tag_fits in
    absurd (omega (arith, v.width, w.one_more))
number_again n (b ∷ t) rest v =
    let w = width_of v.tag v.tag_fits in
    let more = 2 ^ v.tag - 1 in
    let len : length t ≡ more = omega (arith, v.width, w.one_more) in
    let small : num t < 256 ^ more = subst (λ (k : ℕ). num t < 256 ^ k) len (num_below t (λ i. v.bytes (suc i))) in
    let below : n < 64 * 256 ^ more = subst (λ (k : ℕ). n < k) w.limit v.fits in
    let e : b * 256 ^ more + num t ≡ v.tag * (64 * 256 ^ more) + n =
    subst (λ (k : ℕ). b * 256 ^ k + num t ≡ v.tag * (64 * 256 ^ more) + n) len
    (subst (λ (k : ℕ). b * 256 ^ length t + num t ≡ v.tag * k + n) w.limit v.value) in
    let c = cut v.tag b (num t) n v.tag_fits small below e in
    let long : ltb (length (t ++ rest)) more ≡ false = le-ltb _ _ (omega (arith, length-append t rest)) in
    rw (c.tag_is, long, take_at t rest more len, drop_at t rest more len, c.value) refl

no_number_in : (bytes : List ℕ) (found : Option (ℕ × List ℕ)) → number_at bytes ≡ found → AreBytes bytes
    → ((v : ℕ) → NoFront (Encodes v) bytes) → found ≡ None
no_number_in bytes None e fits none = refl
no_number_in bytes (Some x) e fits none =
    let t = number_taken bytes x.0 x.1 fits e in absurd (none x.0 t.front x.1 t.split t.is)

-- if no front is a number, reading finds none
pub no_number : (bytes : List ℕ) → AreBytes bytes → ((v : ℕ) → NoFront (Encodes v) bytes) → number_at bytes ≡ None
no_number bytes fits none = no_number_in bytes (number_at bytes) refl fits none

-- and if it finds none, no front is one
pub none_found : (bytes : List ℕ) → number_at bytes ≡ None → (v : ℕ) → NoFront (Encodes v) bytes
none_found bytes e v b s split p =
    absurd (let h = number_again v b s p in let g : number_at (b ++ s) ≡ None = ap number_at (sym split) ∙ e in cc)

-- what was consumed is found
pub found_taken : (n : ℕ) (bytes rest : List ℕ) → Takes (Encodes n) bytes rest → number_at bytes ≡ Some (n, rest)
found_taken n bytes rest t = ap number_at t.split ∙ number_again n t.front rest t.is

-- a byte below 64 is a number
pub short_taken : (n : ℕ) (rest : List ℕ) → n < 64 → Takes (Encodes n) (n ∷ rest) rest
short_taken n rest lt = takes_one (n ∷ rest) rest n refl (omega arith) lt refl

pub short_found : (n : ℕ) (rest : List ℕ) → n < 64 → number_at (n ∷ rest) ≡ Some (n, rest)
short_found n rest lt = found_taken n (n ∷ rest) rest (short_taken n rest lt)

pub ruleset found = (found_taken, no_number, short_taken, short_found)
