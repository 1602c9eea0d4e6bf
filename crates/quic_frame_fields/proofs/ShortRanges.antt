-- Ranges of an ACK whose numbers have one byte each, read eight bytes at a time.
use Rattle.std.proofs.Common.{◌≡◌, ◌≢◌, ℕ, zero, suc, ◌+◌, ◌-◌, ◌*◌, ◌/◌, ◌%◌, ◌^◌, ◌≤◌, ◌<◌, Result, List, [], ◌∷◌, ◌++◌, length, take, drop, get_or, sum, refl, sym, ap, ◌∙◌, arith}
use Rattle.std.specs.Int.{w64, bit_at, trailing_zeros, from_le_bytes}
use Rattle.std.specs.Int.RustNames.{bit_and}
use Rattle.std.proofs.lemmas.List.{take_rest, take-append-drop, drop-append-le, length-take-le}
use Rattle.std.proofs.lemmas.Nat.{and_block, and_mask, shr_high, shr-shr, and_le_l}
use Rattle.std.proofs.lemmas.Nat.Bits.{bit_at_and, bit_at-zero, bit_at-trailing_zeros}
use Rattle.quic_base.specs.Number.{AreBytes}
use Rattle.quic_frame_fields.specs.declared.frame.fault.Fault.{Fault}
use Rattle.quic_frame_fields.specs.Reading.{below_at}
use Rattle.quic_frame_fields.proofs.Gaps.{by_range, short_range}

-- ---- ranges one after the other

-- that many ranges of one-byte numbers are at the front
abbrev IsShort : ℕ → List ℕ → Type 0
IsShort zero bytes = Unit {0}
IsShort (suc r) [] = ⊥
IsShort (suc r) (n ∷ []) = ⊥
IsShort (suc r) (n ∷ m ∷ bytes) = (n < 64) × (m < 64) × IsShort r bytes

-- how many packet numbers they span, gaps included
abbrev spanned : ℕ → List ℕ → ℕ
spanned zero bytes = 0
spanned (suc r) [] = 0
spanned (suc r) (n ∷ []) = 0
spanned (suc r) (n ∷ m ∷ bytes) = n + 2 + m + spanned r bytes

abbrev behind_short : ℕ → List ℕ → List ℕ
behind_short zero bytes = bytes
behind_short (suc r) [] = []
behind_short (suc r) (n ∷ []) = []
behind_short (suc r) (n ∷ m ∷ bytes) = behind_short r bytes

short_below : (count low n m : ℕ) (rest : List ℕ) → n < 64 → m < 64 → n + 2 + m ≤ low
    → below_at (suc count) low (n ∷ m ∷ rest) ≡ below_at count (low - (n + 2 + m)) rest
short_below count low n m rest one two le =
    rw (by_range count low (n ∷ m ∷ rest), short_range low n m rest one two le) refl

shorts_below : (r count low : ℕ) (bytes : List ℕ) → IsShort r bytes → r ≤ count → spanned r bytes ≤ low
    → below_at count low bytes ≡ below_at (count - r) (low - spanned r bytes) (behind_short r bytes)
shorts_below zero count low bytes short few le =
    let c : count - 0 ≡ count = omega arith in
    let l : low - 0 ≡ low = omega arith in
    rw (c, l) refl
shorts_below (suc r) count low [] short few le = absurd short
shorts_below (suc r) count low (n ∷ []) short few le = absurd short
shorts_below (suc r) count low (n ∷ m ∷ bytes) short few le =
    let k : count ≡ suc (count - 1) = omega arith in
    let first = short_below (count - 1) low n m bytes short.0 short.1 (omega arith) in
    let others = shorts_below r (count - 1) (low - (n + 2 + m)) bytes short.2 (omega arith) (omega arith) in
    let counted : count - 1 - r ≡ count - suc r = omega arith in
    let spans : low - (n + 2 + m) - spanned r bytes ≡ low - (n + 2 + m + spanned r bytes) = omega arith in
    ap (λ (c : ℕ). below_at c low (n ∷ m ∷ bytes)) k ∙ first ∙ others
    ∙ ap (λ (c : ℕ). below_at c (low - (n + 2 + m) - spanned r bytes) (behind_short r bytes)) counted
    ∙ ap (λ (l : ℕ). below_at (count - suc r) l (behind_short r bytes)) spans

-- ---- the sum of the bytes of a word

abbrev pub AreShort : List ℕ → Type 0
AreShort bytes = (i : ℕ) → get_or bytes i 0 < 64

-- every second byte
evens : (p q r s word : ℕ) → p < 2 ^ 16 → q < 2 ^ 16 → r < 2 ^ 16 → s < 2 ^ 16
    → word ≡ ((s * 2 ^ 16 + r) * 2 ^ 16 + q) * 2 ^ 16 + p
    → bit_and word 0x00ff_00ff_00ff_00ff ≡ ((s % 256 * 2 ^ 16 + r % 256) * 2 ^ 16 + q % 256) * 2 ^ 16 + p % 256
evens p q r s word p-fits q-fits r-fits s-fits e =
    let low : (x : ℕ) → bit_and x 255 ≡ x % 256 = λ (x : ℕ). and_mask x 8 in
    let one = and_block 16 s 0xff r 0xff r-fits (omega arith) in
    let two = and_block 16 (s * 2 ^ 16 + r) 0x00ff_00ff q 0xff q-fits (omega arith) in
    let three = and_block 16 ((s * 2 ^ 16 + r) * 2 ^ 16 + q) 0x00ff_00ff_00ff p 0xff p-fits (omega arith) in
    rw e (three ∙ rw (two, one, low s, low r, low q, low p) refl)

sum_is : (a b c d e f g h word : ℕ) → AreShort (a ∷ b ∷ c ∷ d ∷ e ∷ f ∷ g ∷ h ∷ [])
    → word ≡ from_le_bytes w64 (a ∷ b ∷ c ∷ d ∷ e ∷ f ∷ g ∷ h ∷ [])
    → (bit_and word 0x00ff_00ff_00ff_00ff + bit_and (word / 2 ^ 8) 0x00ff_00ff_00ff_00ff)
    * 0x0001_0001_0001_0001 % 2 ^ 64 / 2 ^ 48 ≡ a + (b + (c + (d + (e + (f + (g + h))))))
sum_is a b c d e f g h word short is =
    let a-small : a < 64 = short 0 in
    let b-small : b < 64 = short 1 in
    let c-small : c < 64 = short 2 in
    let d-small : d < 64 = short 3 in
    let e-small : e < 64 = short 4 in
    let f-small : f < 64 = short 5 in
    let g-small : g < 64 = short 6 in
    let h-small : h < 64 = short 7 in
    let even =
    evens (b * 256 + a) (d * 256 + c) (f * 256 + e) (h * 256 + g) word (omega arith) (omega arith) (omega arith)
    (omega arith) (omega (arith, is)) in
    let odd =
    evens (c * 256 + b) (e * 256 + d) (g * 256 + f) h (word / 2 ^ 8) (omega arith) (omega arith) (omega arith)
    (omega arith) (omega (arith, is)) in
    rw (even, odd) (omega arith)

-- the same of any list of eight bytes
pub sum_of_bytes : (bytes : List ℕ) (word : ℕ) → length bytes ≡ 8 → AreShort bytes → word ≡ from_le_bytes w64 bytes
    → (bit_and word 0x00ff_00ff_00ff_00ff + bit_and (word / 2 ^ 8) 0x00ff_00ff_00ff_00ff)
    * 0x0001_0001_0001_0001 % 2 ^ 64 / 2 ^ 48 ≡ sum bytes
sum_of_bytes (a ∷ b ∷ c ∷ d ∷ e ∷ f ∷ g ∷ h ∷ []) word eight short is =
    sum_is a b c d e f g h word short is ∙ omega arith
sum_of_bytes bytes word eight short is = absurd (omega (arith, eight))

-- ---- how many bytes at the front of a word are below 64

-- below the lowest bit of a number it has none
zeros_below : (n i : ℕ) → n < 2 ^ 64 → i < trailing_zeros w64 n → bit_at n i ≡ 0
zeros_below zero i fits lt = bit_at-zero i
zeros_below (suc n) i fits lt = (bit_at-trailing_zeros w64 (suc n) (omega arith) fits).2 i lt

-- no bit of a mask is set
abbrev Clear : ℕ → ℕ → Type 0
Clear n bound = (i : ℕ) → i < bound → bit_at n i ≡ 0

bit_clear : (word mask i bound : ℕ) → Clear (bit_and word mask) bound → bit_at mask i ≡ 1 → i < bound
    → bit_at word i ≡ 0
bit_clear word mask i bound clear set lt =
    let none = clear i lt in
    let both = bit_at_and word mask i in
    omega (arith, none, both, set)

byte_small : (k low b high word : ℕ) → b < 256 → low < 2 ^ k → word ≡ (high * 256 + b) * 2 ^ k + low
    → bit_at word (k + 6) ≡ 0 → bit_at word (k + 7) ≡ 0 → b < 64
byte_small k low b high word fits less is six seven =
    let here : word / 2 ^ k ≡ high * 256 + b = ap (λ (n : ℕ). n / 2 ^ k) is ∙ shr_high (high * 256 + b) k low less in
    let six_is : word / 2 ^ k / 2 ^ 6 % 2 ≡ 0 = ap (λ (n : ℕ). n % 2) (shr-shr word k 6) ∙ six in
    let seven_is : word / 2 ^ k / 2 ^ 7 % 2 ≡ 0 = ap (λ (n : ℕ). n % 2) (shr-shr word k 7) ∙ seven in
    omega (arith, rw here at six_is, rw here at seven_is, fits)

-- a byte below the lowest bit of those that make a byte 64 or more
byte_below : (k low b high word bound : ℕ) → Clear (bit_and word 0xc0c0_c0c0_c0c0_c0c0) bound → b < 256 → low < 2 ^ k
    → word ≡ (high * 256 + b) * 2 ^ k + low → bit_at 0xc0c0_c0c0_c0c0_c0c0 (k + 6) ≡ 1
    → bit_at 0xc0c0_c0c0_c0c0_c0c0 (k + 7) ≡ 1
    → k + 7 < bound → b < 64
byte_below k low b high word bound clear fits less is six seven lt =
    byte_small k low b high word fits less is (bit_clear word 0xc0c0_c0c0_c0c0_c0c0 (k + 6) bound clear six
    (omega (arith, lt))) (bit_clear word 0xc0c0_c0c0_c0c0_c0c0 (k + 7) bound clear seven lt)

-- the bytes at the front, by the position of that bit
bytes_below : (a b c d e f g h word i bound : ℕ) → Clear (bit_and word 0xc0c0_c0c0_c0c0_c0c0) bound
    → ((j : ℕ) → get_or (a ∷ b ∷ c ∷ d ∷ e ∷ f ∷ g ∷ h ∷ []) j 0 < 256)
    → word ≡ from_le_bytes w64 (a ∷ b ∷ c ∷ d ∷ e ∷ f ∷ g ∷ h ∷ [])
    → i < 8 → 8 * i + 7 < bound → get_or (a ∷ b ∷ c ∷ d ∷ e ∷ f ∷ g ∷ h ∷ []) i 0 < 64
bytes_below a b c d e f g h word i bound clear fits is lt under =
    let a-fits : a < 256 = fits 0 in
    let b-fits : b < 256 = fits 1 in
    let c-fits : c < 256 = fits 2 in
    let d-fits : d < 256 = fits 3 in
    let e-fits : e < 256 = fits 4 in
    let f-fits : f < 256 = fits 5 in
    let g-fits : g < 256 = fits 6 in
    let h-fits : h < 256 = fits 7 in
    pick i lt under
    (λ u. byte_below 0 0 a (b + 256 * (c + 256 * (d + 256 * (e + 256 * (f + 256 * (g + 256 * h)))))) word bound clear
    a-fits (omega arith) (omega (arith, is)) refl refl u)
    (λ u. byte_below 8 a b (c + 256 * (d + 256 * (e + 256 * (f + 256 * (g + 256 * h))))) word bound clear b-fits
    (omega arith) (omega (arith, is)) refl refl u)
    (λ u. byte_below 16 (a + 256 * b) c (d + 256 * (e + 256 * (f + 256 * (g + 256 * h)))) word bound clear c-fits
    (omega arith) (omega (arith, is)) refl refl u)
    (λ u. byte_below 24 (a + 256 * (b + 256 * c)) d (e + 256 * (f + 256 * (g + 256 * h))) word bound clear d-fits
    (omega arith) (omega (arith, is)) refl refl u)
    (λ u. byte_below 32 (a + 256 * (b + 256 * (c + 256 * d))) e (f + 256 * (g + 256 * h)) word bound clear e-fits
    (omega arith) (omega (arith, is)) refl refl u)
    (λ u. byte_below 40 (a + 256 * (b + 256 * (c + 256 * (d + 256 * e)))) f (g + 256 * h) word bound clear f-fits
    (omega arith) (omega (arith, is)) refl refl u)
    (λ u. byte_below 48 (a + 256 * (b + 256 * (c + 256 * (d + 256 * (e + 256 * f))))) g h word bound clear g-fits
    (omega arith) (omega (arith, is)) refl refl u)
    (λ u. byte_below 56 (a + 256 * (b + 256 * (c + 256 * (d + 256 * (e + 256 * (f + 256 * g)))))) h 0 word bound clear
    h-fits (omega arith) (omega (arith, is)) refl refl u)
  where
    pick : (i : ℕ) → i < 8 → 8 * i + 7 < bound
        → (7 < bound → a < 64) → (15 < bound → b < 64)
        → (23 < bound → c < 64) → (31 < bound → d < 64)
        → (39 < bound → e < 64) → (47 < bound → f < 64)
        → (55 < bound → g < 64) → (63 < bound → h < 64)
        → get_or (a ∷ b ∷ c ∷ d ∷ e ∷ f ∷ g ∷ h ∷ []) i 0 < 64
    pick zero lt u one two three four five six seven eight = one u
    pick (suc zero) lt u one two three four five six seven eight = two u
    pick (suc (suc zero)) lt u one two three four five six seven eight = three u
    pick (suc (suc (suc zero))) lt u one two three four five six seven eight = four u
    pick (suc (suc (suc (suc zero)))) lt u one two three four five six seven eight = five u
    pick (suc (suc (suc (suc (suc zero))))) lt u one two three four five six seven eight = six u
    pick (suc (suc (suc (suc (suc (suc zero)))))) lt u one two three four five six seven eight = seven u
    pick (suc (suc (suc (suc (suc (suc (suc zero))))))) lt u one two three four five six seven eight = eight u
    pick (suc (suc (suc (suc (suc (suc (suc (suc i)))))))) lt u one two three four five six seven eight = absurd (omega (arith, lt))

-- ---- the ranges that eight bytes begin with

abbrev IsSumOf : ℕ → ℕ → Type 0
IsSumOf word all =
    (bytes : List ℕ) → length bytes ≡ 8 → AreShort bytes → word ≡ from_le_bytes w64 bytes → all ≡ sum bytes

-- The first number of ranges at the front is read at once: they span the second number of packet numbers.
abbrev pub ReadsShort : List ℕ → ℕ → ℕ → Type 0
ReadsShort front r all =
    (count low : ℕ) (rest : List ℕ) → r ≤ count → all ≤ low → below_at count low (front ++ rest)
    ≡ below_at (count - r) (low - all) (drop (2 * r) front ++ rest)

eight_short : (a b c d e f g h : ℕ) → a < 64 → b < 64 → c < 64 → d < 64 → e < 64 → f < 64 → g < 64 → h < 64
    → AreShort (a ∷ b ∷ c ∷ d ∷ e ∷ f ∷ g ∷ h ∷ [])
eight_short a b c d e f g h one two three four five six seven eight zero = one
eight_short a b c d e f g h one two three four five six seven eight (suc zero) = two
eight_short a b c d e f g h one two three four five six seven eight (suc (suc zero)) = three
eight_short a b c d e f g h one two three four five six seven eight (suc (suc (suc zero))) = four
eight_short a b c d e f g h one two three four five six seven eight (suc (suc (suc (suc zero)))) = five
eight_short a b c d e f g h one two three four five six seven eight (suc (suc (suc (suc (suc zero))))) = six
eight_short a b c d e f g h one two three four five six seven eight (suc (suc (suc (suc (suc (suc zero)))))) = seven
eight_short a b c d e f g h one two three four five six seven eight (suc (suc (suc (suc (suc (suc (suc zero))))))) =
    eight
eight_short a b c d e f g h one two three four five six seven eight (suc (suc (suc (suc (suc (suc (suc (suc i)))))))) =
    omega arith

by_count : (r : ℕ) (a b c d e f g h word all : ℕ)
    → ((i : ℕ) → i < 2 * r → get_or (a ∷ b ∷ c ∷ d ∷ e ∷ f ∷ g ∷ h ∷ []) i 0 < 64)
    → ((i : ℕ) → get_or (a ∷ b ∷ c ∷ d ∷ e ∷ f ∷ g ∷ h ∷ []) i 0 < 256)
    → word ≡ from_le_bytes w64 (a ∷ b ∷ c ∷ d ∷ e ∷ f ∷ g ∷ h ∷ []) → r ≤ 4 → IsSumOf (word % 2 ^ (16 * r)) all
    → (count low : ℕ) (rest : List ℕ) → r ≤ count → all + 2 * r ≤ low
    → below_at count low ((a ∷ b ∷ c ∷ d ∷ e ∷ f ∷ g ∷ h ∷ []) ++ rest)
    ≡ below_at (count - r) (low - (all + 2 * r)) (drop (2 * r) (a ∷ b ∷ c ∷ d ∷ e ∷ f ∷ g ∷ h ∷ []) ++ rest)
by_count zero a b c d e f g h word all short fits is few sums count low rest less le =
    let z : 0 < 64 = omega arith in
    let all-is =
    sums (0 ∷ 0 ∷ 0 ∷ 0 ∷ 0 ∷ 0 ∷ 0 ∷ 0 ∷ []) refl (eight_short 0 0 0 0 0 0 0 0 z z z z z z z z) (omega (arith, is)) in
    let spans : all + 2 * 0 ≡ spanned 0 (a ∷ b ∷ c ∷ d ∷ e ∷ f ∷ g ∷ h ∷ rest) = omega (arith, all-is) in
    rw spans (shorts_below 0 count low (a ∷ b ∷ c ∷ d ∷ e ∷ f ∷ g ∷ h ∷ rest) tt less (rw spans at le))
by_count (suc zero) a b c d e f g h word all short fits is few sums count low rest less le =
    let one : a < 64 = short 0 (omega arith) in
    let two : b < 64 = short 1 (omega arith) in
    let z : 0 < 64 = omega arith in
    let all-is =
    sums (a ∷ b ∷ 0 ∷ 0 ∷ 0 ∷ 0 ∷ 0 ∷ 0 ∷ []) refl (eight_short a b 0 0 0 0 0 0 one two z z z z z z)
    (omega (arith, is, fits 0, fits 1)) in
    let spans : all + 2 * 1 ≡ spanned 1 (a ∷ b ∷ c ∷ d ∷ e ∷ f ∷ g ∷ h ∷ rest) = omega (arith, all-is) in
    rw spans (shorts_below 1 count low (a ∷ b ∷ c ∷ d ∷ e ∷ f ∷ g ∷ h ∷ rest) (one, two, tt) less (rw spans at le))
by_count (suc (suc zero)) a b c d e f g h word all short fits is few sums count low rest less le =
    let one : a < 64 = short 0 (omega arith) in
    let two : b < 64 = short 1 (omega arith) in
    let three : c < 64 = short 2 (omega arith) in
    let four : d < 64 = short 3 (omega arith) in
    let z : 0 < 64 = omega arith in
    let all-is =
    sums (a ∷ b ∷ c ∷ d ∷ 0 ∷ 0 ∷ 0 ∷ 0 ∷ []) refl (eight_short a b c d 0 0 0 0 one two three four z z z z)
    (omega (arith, is, fits 0, fits 1, fits 2, fits 3)) in
    let spans : all + 2 * 2 ≡ spanned 2 (a ∷ b ∷ c ∷ d ∷ e ∷ f ∷ g ∷ h ∷ rest) = omega (arith, all-is) in
    rw spans (shorts_below 2 count low (a ∷ b ∷ c ∷ d ∷ e ∷ f ∷ g ∷ h ∷ rest) (one, two, (three, four, tt)) less (rw spans at le))
by_count (suc (suc (suc zero))) a b c d e f g h word all short fits is few sums count low rest less le =
    let one : a < 64 = short 0 (omega arith) in
    let two : b < 64 = short 1 (omega arith) in
    let three : c < 64 = short 2 (omega arith) in
    let four : d < 64 = short 3 (omega arith) in
    let five : e < 64 = short 4 (omega arith) in
    let six : f < 64 = short 5 (omega arith) in
    let z : 0 < 64 = omega arith in
    let all-is =
    sums (a ∷ b ∷ c ∷ d ∷ e ∷ f ∷ 0 ∷ 0 ∷ []) refl (eight_short a b c d e f 0 0 one two three four five six z z)
    (omega (arith, is, fits 0, fits 1, fits 2, fits 3, fits 4, fits 5)) in
    let spans : all + 2 * 3 ≡ spanned 3 (a ∷ b ∷ c ∷ d ∷ e ∷ f ∷ g ∷ h ∷ rest) = omega (arith, all-is) in
    rw spans (shorts_below 3 count low (a ∷ b ∷ c ∷ d ∷ e ∷ f ∷ g ∷ h ∷ rest) (one, two, (three, four, (five, six, tt)))
    less (rw spans at le))
by_count (suc (suc (suc (suc zero)))) a b c d e f g h word all short fits is few sums count low rest less le =
    let one : a < 64 = short 0 (omega arith) in
    let two : b < 64 = short 1 (omega arith) in
    let three : c < 64 = short 2 (omega arith) in
    let four : d < 64 = short 3 (omega arith) in
    let five : e < 64 = short 4 (omega arith) in
    let six : f < 64 = short 5 (omega arith) in
    let seven : g < 64 = short 6 (omega arith) in
    let eight : h < 64 = short 7 (omega arith) in
    let all-is =
    sums (a ∷ b ∷ c ∷ d ∷ e ∷ f ∷ g ∷ h ∷ []) refl (eight_short a b c d e f g h one two three four five six seven
    eight) (omega (arith, is, fits 0, fits 1, fits 2, fits 3, fits 4, fits 5, fits 6, fits 7)) in
    let spans : all + 2 * 4 ≡ spanned 4 (a ∷ b ∷ c ∷ d ∷ e ∷ f ∷ g ∷ h ∷ rest) = omega (arith, all-is) in
    rw spans (shorts_below 4 count low (a ∷ b ∷ c ∷ d ∷ e ∷ f ∷ g ∷ h ∷ rest)
    (one, two, (three, four, (five, six, (seven, eight, tt)))) less (rw spans at le))
by_count (suc (suc (suc (suc (suc r))))) a b c d e f g h word all short fits is few sums count low rest less le =
    absurd (omega (arith, few))

shorts_read : (front : List ℕ) (word all r bound : ℕ) → length front ≡ 8 → AreBytes front
    → word ≡ from_le_bytes w64 front → Clear (bit_and word 0xc0c0_c0c0_c0c0_c0c0) bound → 16 * r ≤ bound → r ≤ 4
    → IsSumOf (word % 2 ^ (16 * r)) all → ReadsShort front r (all + 2 * r)
shorts_read (a ∷ b ∷ c ∷ d ∷ e ∷ f ∷ g ∷ h ∷ []) word all r bound eight fits is clear within few sums =
    by_count r a b c d e f g h word all (λ i lt. bytes_below a b c d e f g h word i bound clear fits is
    (omega (arith, lt, few)) (omega (arith, lt, within))) fits is few sums
shorts_read front word all r bound eight fits is clear within few sums = absurd (omega (arith, eight))

-- eight bytes of which none is 64 or more
pub four_read : (front : List ℕ) (word all : ℕ) → length front ≡ 8 → AreBytes front → word < 2 ^ 64
    → word ≡ from_le_bytes w64 front → bit_and word 0xc0c0_c0c0_c0c0_c0c0 ≡ 0 → IsSumOf word all
    → ReadsShort front 4 (all + 8)
four_read front word all eight fits in_word is none sums =
    let same : word % 2 ^ 64 ≡ word = omega (arith, in_word) in
    shorts_read front word all 4 64 eight fits is (λ i lt. rw none (bit_at-zero i)) (omega arith) (omega arith) (rw same sums)

-- and of which one is, if the lowest such bit is at place
pub some_few : (word place : ℕ) → word < 2 ^ 64 → bit_and word 0xc0c0_c0c0_c0c0_c0c0 ≢ 0
    → place ≡ trailing_zeros w64 (bit_and word 0xc0c0_c0c0_c0c0_c0c0) → place / 16 < 4
some_few word place in_word some is =
    let wide = bit_and word 0xc0c0_c0c0_c0c0_c0c0 in
    let lowest =
    (bit_at-trailing_zeros w64 wide (positive wide some) (omega (arith, and_le_l word 0xc0c0_c0c0_c0c0_c0c0, in_word))).0 in
    omega (arith, lowest, is)
  where
    positive : (n : ℕ) → n ≢ 0 → 0 < n
    positive zero some = absurd (some refl)
    positive (suc n) some = omega arith

-- the bytes below that position
mask_is : (k : ℕ) → k < 4 → 1 * 2 ^ (16 * k) % 2 ^ 64 - 1 ≡ 2 ^ (16 * k) - 1
mask_is zero lt = refl
mask_is (suc zero) lt = refl
mask_is (suc (suc zero)) lt = refl
mask_is (suc (suc (suc zero))) lt = refl
mask_is (suc (suc (suc (suc k)))) lt = absurd (omega (arith, lt))

pub some_read : (front : List ℕ) (word all place : ℕ) → length front ≡ 8 → AreBytes front → word < 2 ^ 64
    → word ≡ from_le_bytes w64 front → bit_and word 0xc0c0_c0c0_c0c0_c0c0 ≢ 0
    → place ≡ trailing_zeros w64 (bit_and word 0xc0c0_c0c0_c0c0_c0c0)
    → IsSumOf (bit_and word (1 * 2 ^ (16 * (place / 16)) % 2 ^ 64 - 1)) all
    → ReadsShort front (place / 16) (all + 2 * (place / 16))
some_read front word all place eight fits in_word is some place-is sums =
    let wide = bit_and word 0xc0c0_c0c0_c0c0_c0c0 in
    let few = some_few word place in_word some place-is in
    let short : bit_and word (1 * 2 ^ (16 * (place / 16)) % 2 ^ 64 - 1) ≡ word % 2 ^ (16 * (place / 16)) =
    ap (bit_and word) (mask_is (place / 16) few) ∙ and_mask word (16 * (place / 16)) in
    shorts_read front word all (place / 16) place eight fits is
    (λ i lt. zeros_below wide i (omega (arith, and_le_l word 0xc0c0_c0c0_c0c0_c0c0, in_word))
    (omega (arith, lt, place-is))) (omega arith) (omega (arith, few))
    (λ bytes len short_bytes same. sums bytes len short_bytes (short ∙ same))

-- a step of the loop
pub shorts_pass : (left low r all : ℕ) (rest front : List ℕ) (total : Result (List ℕ) Fault) → front ≡ take 8 rest
    → 8 ≤ length rest → r ≤ 4 → ReadsShort front r all → r ≤ left → all ≤ low → below_at left low rest ≡ total
    → below_at (left - r) (low - all) (take (length rest - 2 * r) (drop (2 * r) rest)) ≡ total
shorts_pass left low r all rest front total is long few reads less le so_far =
    let eight : length front ≡ 8 = ap length is ∙ length-take-le 8 rest long in
    let whole : rest ≡ front ++ drop 8 rest =
    sym (take-append-drop 8 rest) ∙ ap (λ (l : List ℕ). l ++ drop 8 rest) (sym is) in
    let cut : take (length rest - 2 * r) (drop (2 * r) rest) ≡ drop (2 * r) front ++ drop 8 rest =
    take_rest rest (2 * r) ∙ ap (drop (2 * r)) whole
    ∙ drop-append-le (2 * r) front (drop 8 rest) (omega (arith, few, eight)) in
    ap (below_at (left - r) (low - all)) cut ∙ sym (reads left low (drop 8 rest) less le)
    ∙ ap (below_at left low) (sym whole) ∙ so_far
