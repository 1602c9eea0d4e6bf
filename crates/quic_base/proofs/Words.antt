-- A number of any width, from one load of eight bytes.
use Rattle.std.proofs.Common.{◌≡◌, ℕ, zero, suc, ◌+◌, ◌-◌, ◌*◌, ◌/◌, ◌%◌, ◌^◌, ◌<◌, ◌≤◌, false, ltb, List, [], ◌∷◌, ◌++◌, length, take, drop, Some, refl, sym, ap, subst, ◌∙◌, arith}
use Rattle.std.proofs.lemmas.Bool.{le-ltb}
use Rattle.std.proofs.lemmas.List.{take_rest, take-append-drop, length-append, length-drop, length-take-le}
use Rattle.std.proofs.lemmas.Nat.{and_mask}
use Rattle.std.specs.Int.RustNames.{bit_and}
use Rattle.std.specs.Int.{w64, from_be_bytes}
use Rattle.quic_base.specs.Number.{AreBytes, num}
use Rattle.quic_base.specs.Codec.{Takes}
use Rattle.quic_base.specs.Reading.{number_at}
use Rattle.quic_base.specs.Varint.{Encodes}
use Rattle.quic_base.proofs.Numbers.{same_front}
use Rattle.quic_base.proofs.Readings.{number_taken}

-- What the high bytes of a word hold: a number's width, by its tag, and its value.
record IsWordOf (t b s word : ℕ) : Type 0 where
  tag : word / 2 ^ 62 ≡ t
  value : word % 2 ^ 62 / 2 ^ (64 - 8 * 2 ^ t) ≡ b % 64 * 256 ^ (2 ^ t - 1) + s

word_of : (t b s low word : ℕ) → t < 4 → b / 64 ≡ t → s < 256 ^ (2 ^ t - 1) → low < 256 ^ (8 - 2 ^ t)
    → word ≡ (b * 256 ^ (2 ^ t - 1) + s) * 256 ^ (8 - 2 ^ t) + low → IsWordOf t b s word
word_of zero b s low word lt t-is few rest e =
    record { tag = omega (arith, t-is, few, rest, e); value = omega (arith, t-is, few, rest, e) }
word_of (suc zero) b s low word lt t-is few rest e =
    record { tag = omega (arith, t-is, few, rest, e); value = omega (arith, t-is, few, rest, e) }
word_of (suc (suc zero)) b s low word lt t-is few rest e =
    record { tag = omega (arith, t-is, few, rest, e); value = omega (arith, t-is, few, rest, e) }
word_of (suc (suc (suc zero))) b s low word lt t-is few rest e =
    record { tag = omega (arith, t-is, few, rest, e); value = omega (arith, t-is, few, rest, e) }
word_of (suc (suc (suc (suc t)))) b s low word lt t-is few rest e = absurd (omega (arith, lt))

-- The number at the front of a list of at least eight bytes.
record ReadsWord (word : ℕ) (bytes : List ℕ) : Type 0 where
  tag : word / 2 ^ 62 < 4
  read : number_at bytes ≡ Some (word % 2 ^ 62 / 2 ^ (64 - 8 * 2 ^ (word / 2 ^ 62)), drop (2 ^ (word / 2 ^ 62)) bytes)

by_tag : (t b word : ℕ) (bs : List ℕ) → t < 4 → b / 64 ≡ t → 7 ≤ length bs
    → IsWordOf t b (num (take (2 ^ t - 1) bs)) word → ReadsWord word (b ∷ bs)
unfolding number_at
by_tag zero b word bs lt t-is long is =
    let no : ltb (length bs) 0 ≡ false = le-ltb _ _ (omega arith) in
    record { tag = omega (arith, is.tag); read = rw (is.tag, is.value, t-is, no) refl }
by_tag (suc zero) b word bs lt t-is long is =
    let no : ltb (length bs) 1 ≡ false = le-ltb _ _ (omega arith) in
    record { tag = omega (arith, is.tag); read = rw (is.tag, is.value, t-is, no) refl }
by_tag (suc (suc zero)) b word bs lt t-is long is =
    let no : ltb (length bs) 3 ≡ false = le-ltb _ _ (omega arith) in
    record { tag = omega (arith, is.tag); read = rw (is.tag, is.value, t-is, no) refl }
by_tag (suc (suc (suc zero))) b word bs lt t-is long is =
    let no : ltb (length bs) 7 ≡ false = le-ltb _ _ (omega arith) in
    record { tag = omega (arith, is.tag); read = rw (is.tag, is.value, t-is, no) refl }
by_tag (suc (suc (suc (suc t)))) b word bs lt t-is long is = absurd (omega (arith, lt))

-- by its bytes
of_bytes : (t a b c d e f g i word : ℕ) (rest : List ℕ) → AreBytes (a ∷ b ∷ c ∷ d ∷ e ∷ f ∷ g ∷ i ∷ rest) → t < 4
    → a / 64 ≡ t
    → word ≡ a * 256 ^ 7 + (b * 256 ^ 6 + (c * 256 ^ 5 + (d * 256 ^ 4 + (e * 256 ^ 3 + (f * 256 ^ 2 + (g * 256 + i))))))
    → IsWordOf t a (num (take (2 ^ t - 1) (b ∷ c ∷ d ∷ e ∷ f ∷ g ∷ i ∷ rest))) word
of_bytes zero a b c d e f g i word rest fits lt t-is w =
    word_of 0 a 0 (b * 256 ^ 6 + (c * 256 ^ 5 + (d * 256 ^ 4 + (e * 256 ^ 3 + (f * 256 ^ 2 + (g * 256 + i)))))) word lt
    t-is (omega arith) (omega (arith, fits 1, fits 2, fits 3, fits 4, fits 5, fits 6, fits 7)) (omega (arith, w))
of_bytes (suc zero) a b c d e f g i word rest fits lt t-is w =
    word_of 1 a _ (c * 256 ^ 5 + (d * 256 ^ 4 + (e * 256 ^ 3 + (f * 256 ^ 2 + (g * 256 + i))))) word lt t-is
    (omega (arith, fits 1)) (omega (arith, fits 2, fits 3, fits 4, fits 5, fits 6, fits 7)) (omega (arith, w))
of_bytes (suc (suc zero)) a b c d e f g i word rest fits lt t-is w =
    word_of 2 a _ (e * 256 ^ 3 + (f * 256 ^ 2 + (g * 256 + i))) word lt t-is (omega (arith, fits 1, fits 2, fits 3))
    (omega (arith, fits 4, fits 5, fits 6, fits 7)) (omega (arith, w))
of_bytes (suc (suc (suc zero))) a b c d e f g i word rest fits lt t-is w =
    word_of 3 a _ 0 word lt t-is (omega (arith, fits 1, fits 2, fits 3, fits 4, fits 5, fits 6, fits 7)) (omega arith) (omega (arith, w))
of_bytes (suc (suc (suc (suc t)))) a b c d e f g i word rest fits lt t-is w = absurd (omega (arith, lt))

-- what the program reads from eight bytes
reads_word : (word : ℕ) (front : List ℕ) → length front ≡ 8 → AreBytes front → word ≡ from_be_bytes w64 front
    → ReadsWord word front
reads_word word (a ∷ b ∷ c ∷ d ∷ e ∷ f ∷ g ∷ i ∷ []) eight fits w =
    let lt : a < 256 = fits 0 in
    by_tag (a / 64) a word (b ∷ c ∷ d ∷ e ∷ f ∷ g ∷ i ∷ []) (omega arith) refl (omega arith)
    (of_bytes (a / 64) a b c d e f g i word [] fits (omega arith) refl (omega (arith, w)))
reads_word word front eight fits w = absurd (omega (arith, eight))

-- its operators
width_is : (t : ℕ) → t < 4 → (1 * 2 ^ t % 2 ^ 64 ≡ 2 ^ t) × (2 ^ t ≤ 8)
width_is zero lt = (refl, omega arith)
width_is (suc zero) lt = (refl, omega arith)
width_is (suc (suc zero)) lt = (refl, omega arith)
width_is (suc (suc (suc zero))) lt = (refl, omega arith)
width_is (suc (suc (suc (suc t)))) lt = absurd (omega (arith, lt))

front_of : (n width : ℕ) (bytes : List ℕ) → width ≤ length bytes → Takes (Encodes n) bytes (drop width bytes)
    → Encodes n (take width bytes)
front_of n width bytes le t =
    let whole : t.front ++ drop width bytes ≡ take width bytes ++ drop width bytes =
    sym t.split ∙ sym (take-append-drop width bytes) in
    let sizes : length bytes ≡ length t.front + length (drop width bytes) =
    ap length t.split ∙ length-append t.front (drop width bytes) in
    let len : length t.front ≡ length (take width bytes) =
    omega (arith, sizes, length-drop width bytes, length-take-le width bytes le, le) in
    subst (Encodes n) (same_front t.front (take width bytes) _ _ len whole) t.is

pub by_shifts : (word width : ℕ) (front : List ℕ) → length front ≡ 8 → AreBytes front → word ≡ from_be_bytes w64 front
    → width ≡ 1 * 2 ^ (word / 2 ^ 62) % 2 ^ 64
    → Encodes (bit_and word (2 ^ 62 - 1) / 2 ^ (64 - 8 * width)) (take width front) × (width ≤ 8)
by_shifts word width front eight fits w e =
    let r = reads_word word front eight fits w in
    let k = width_is (word / 2 ^ 62) r.tag in
    let small : width ≤ 8 = omega (arith, e, k.0, k.1) in
    let value = bit_and word (2 ^ 62 - 1) / 2 ^ (64 - 8 * width) in
    let taken = number_taken front value (drop width front) fits (rw (e, k.0, and_mask word 62) r.read) in
    (front_of value width front (omega (arith, small, eight)) taken, small)

take_again : (n m : ℕ) (xs : List ℕ) → n ≤ m → take n (take m xs) ≡ take n xs
take_again zero m xs le = refl
take_again (suc n) zero xs le = absurd (omega arith)
take_again (suc n) (suc m) [] le = refl
take_again (suc n) (suc m) (x ∷ xs) le = ap (λ (l : List ℕ). x ∷ l) (take_again n m xs (omega arith))

-- a number at the front of the first eight bytes of a slice
pub takes_slice : (n width : ℕ) (bytes front : List ℕ) → front ≡ take 8 bytes → width ≤ 8 → Encodes n (take width front)
    → Takes (Encodes n) bytes (take (length bytes - width) (drop width bytes))
takes_slice n width bytes front front-is le s =
    let same : take width front ≡ take width bytes = ap (take width) front-is ∙ take_again width 8 bytes le in
    record {
      front = take width front;
      split = sym (take-append-drop width bytes) ∙ rw (same, take_rest bytes width) refl;
      is = s;
    }
