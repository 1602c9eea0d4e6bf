-- Lemmas on connection ids: after their length, their text, their order.
use Rattle.std.proofs.Common.{rules, nat_eq, true, ◌≡◌, ℕ, ◌+◌, ◌<◌, ◌≤◌, List, [], ◌∷◌, ◌++◌, length, get_or, take, false, ◌-◌, ◌^◌, refl, sym, ◌∙◌, ap, arith, length-append}
use Rattle.quic_base.specs.Number.{AreBytes}
use Rattle.quic_base.proofs.Numbers.{same_front, same_back}
use Rattle.quic_base.specs.Codec.{Takes, NoFront}
use Rattle.std.specs.List.{flat_map}
use Rattle.std.specs.Fmt.{padded_integral, format_spec, digits}
use Rattle.std.proofs.lemmas.Fmt.{hex_byte}
use Rattle.std.proofs.lemmas.List.{take_more, flat_map_more}
use Rattle.std.specs.declared.cmp.Ordering.{Ordering}
use Rattle.std.specs.declared.cmp.Ordering.TheVariants.{Less, Equal, Greater}
use Rattle.std.specs.Ordering.{is_eq}
use Rattle.std.specs.Cmp.Lexicographic.{pointwise, same_text}
use Rattle.quic_base.specs.ConnectionId.{IsLongId, hex_pair}
use Rattle.quic_base.specs.ConnectionIdOrder.{id_cmp, id_ties}

-- the length in front, and what follows it
pub behind_length : (old b new : List ℕ) (n : ℕ) → old ≡ b ++ new → length b ≡ 1 → n ≡ get_or b 0 0 → old ≡ n ∷ new
behind_length old [] new n e l v = absurd (omega arith)
behind_length old (x ∷ []) new n e l v = e ∙ ap (λ y. y ∷ new) (sym v)
behind_length old (x ∷ y ∷ ys) new n e l v = absurd (omega arith)

-- a whole id in front begins with its length, and that many bytes follow
shown : (old b s id mid : List ℕ) (n : ℕ) → old ≡ n ∷ mid → old ≡ b ++ s → IsLongId id b
    → (n ≡ length id) × (n ≤ length mid)
shown old b s id mid n e f p =
    let w : n ∷ mid ≡ length id ∷ (id ++ s) = sym e ∙ f ∙ ap (λ l. l ++ s) p.value in
    let h : n ≡ length id = cc in
    let t : mid ≡ id ++ s = cc in
    let l : length mid ≡ length id + length s = ap length t ∙ length-append id s in
    (h, omega arith)

pub none_too_long : (old mid : List ℕ) (n : ℕ) → old ≡ n ∷ mid → 20 < n → (id : List ℕ) → NoFront (IsLongId id) old
none_too_long old mid n e l id b s f p =
    let h = shown old b s id mid n e f p in
    omega (arith, h.0, p.short)

pub none_too_short : (old mid : List ℕ) (n : ℕ) → old ≡ n ∷ mid → length mid < n → (id : List ℕ)
    → NoFront (IsLongId id) old
none_too_short old mid n e l id b s f p =
    let h = shown old b s id mid n e f p in
    omega (arith, h.1)

pub takes_long : (old mid id new : List ℕ) (n : ℕ) → old ≡ n ∷ mid → mid ≡ id ++ new → length id ≡ n → n ≤ 20
    → AreBytes id → Takes (IsLongId id) old new
takes_long old mid id new n e f l h a = record {
  front = length id ∷ id;
  split = e ∙ ap (λ m. n ∷ m) f ∙ ap (λ k. k ∷ (id ++ new)) (sym l);
  is = record { bytes = a; short = rw l h; value = refl };
}

-- an id has one encoding, and no encoding begins another
pub long_id_unique : (id id' b c r s : List ℕ) → b ++ r ≡ c ++ s → IsLongId id b → IsLongId id' c
    → (id ≡ id') × (b ≡ c) × (r ≡ s)
long_id_unique id id' b c r s e p q =
    let w : length id ∷ (id ++ r) ≡ length id' ∷ (id' ++ s) =
    ap (λ l. l ++ r) (sym p.value) ∙ e ∙ ap (λ l. l ++ s) q.value in
    let l : length id ≡ length id' = cc in
    let t : id ++ r ≡ id' ++ s = cc in
    let f : id ≡ id' = same_front id id' r s l t in
    (f, p.value ∙ ap (λ i. length i ∷ i) f ∙ sym q.value, same_back id id' r s l t)

-- one more byte of the text
pub hex_more : (xs : List ℕ) (i : ℕ) → i < length xs → get_or xs i 0 < 256
    → flat_map hex_pair (take i xs) ++ padded_integral (format_spec 32 0 4 2 (2 ^ 64 - 1)) false []
    (digits 16 false (get_or xs i 0)) ≡ flat_map hex_pair (take (i + 1) xs)
hex_more xs i l h =
    ap (λ t. flat_map hex_pair (take i xs) ++ t) (hex_byte false (get_or xs i 0) h)
    ∙ flat_map_more hex_pair [] (take i xs) (get_or xs i 0)
    ∙ ap (flat_map hex_pair) (sym (take_more xs i 0 l))

-- neither of two ids comes first exactly when they are equal
is_equal : (r : Ordering) → is_eq r ≡ true → r ≡ Equal
is_equal Less e = absurd cc
is_equal Equal e = refl
is_equal Greater e = absurd cc

pub id_tied : (x y : List ℕ) → (id_cmp x y ≡ Equal → x ≡ y) × (x ≡ y → id_cmp x y ≡ Equal)
id_tied x y = (
  λ e. same_text x y (sym (id_ties x y ∙ ap is_eq e)),
  λ e. is_equal (id_cmp x y) (sym (id_ties x y) ∙ same x y e),
)
  where
    same : (x y : List ℕ) → x ≡ y → pointwise nat_eq x y ≡ true
    same x y e = search rules
