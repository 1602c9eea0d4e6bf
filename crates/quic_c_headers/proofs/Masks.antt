-- A mask that is applied to a header and removed again leaves the header as it was.
use Rattle.std.proofs.Common.{◌≡◌, ℕ, zero, suc, ◌+◌, ◌-◌, ◌/◌, ◌%◌, ◌<◌, ◌≤◌, ◌⊎◌, Bool, true, false, List, length, get_or, set, refl, sym, ap, ◌∙◌, arith, length-set, inl, inr}
use Rattle.std.specs.Prelude.{bit_xor, nat_lt, slice_index}
use Rattle.std.proofs.lemmas.List.{get_or-set_other, get_or-set_same}
use Rattle.std.proofs.lemmas.Grind.{same_number_lists}
use Rattle.std.proofs.lemmas.Bool.{cases_eq, cases_lt}
use Rattle.std.proofs.lemmas.Bool.Decides.{nat_tests}
use lib.Bits.{xor_assoc, xor_self, xor_zero_r, xor_shr}
use Rattle.quic_crypto.specs.Keys.{first_unit, number_len}
use Rattle.quic_crypto.specs.Masks.{masked_packet, unmasked, unmasked_at, unmasked_first}

xor_twice : (a s : ℕ) → bit_xor (bit_xor a s) s ≡ a
xor_twice a s = xor_assoc a s s ∙ ap (bit_xor a) (xor_self s) ∙ xor_zero_r a

-- low bits leave the high ones
xor_high : (b : Bool) (a s : ℕ) → bit_xor a (s % first_unit b) / first_unit b ≡ a / first_unit b
xor_high true a s =
    xor_shr a (s % 32) 5 ∙ ap (bit_xor (a / 32)) (let none : s % 32 / 32 ≡ 0 = omega arith in none)
    ∙ xor_zero_r (a / 32)
xor_high false a s =
    xor_shr a (s % 16) 4 ∙ ap (bit_xor (a / 16)) (let none : s % 16 / 16 ≡ 0 = omega arith in none)
    ∙ xor_zero_r (a / 16)

short_stays : (b : Bool) (old new : ℕ) → new / first_unit b ≡ old / first_unit b → nat_lt new 128 ≡ nat_lt old 128
short_stays true old new same = grind (arith, nat_tests)
short_stays false old new same = grind (arith, nat_tests)

first_twice : (mask : List ℕ) (f : ℕ) → unmasked_first mask (unmasked_first mask f) ≡ f
first_twice mask f =
    let s : ℕ = slice_index mask 0 in
    let x : ℕ = bit_xor f (s % first_unit (nat_lt f 128)) in
    let short : nat_lt x 128 ≡ nat_lt f 128 = short_stays (nat_lt f 128) f x (xor_high (nat_lt f 128) f s) in
    ap (λ (b : Bool). bit_xor x (s % first_unit b)) short ∙ xor_twice f (s % first_unit (nat_lt f 128))

at_len : (at n : ℕ) (mask bytes : List ℕ) → length (unmasked_at at mask n bytes) ≡ length bytes
at_len at zero mask bytes = refl
at_len at (suc n) mask bytes =
    length-set (unmasked_at at mask n bytes) (at + n) (bit_xor (get_or (unmasked_at at mask n bytes) (at + n) 0) (get_or mask (n + 1) 0))
    ∙ at_len at n mask bytes

at_out : (at n : ℕ) (mask bytes : List ℕ) (i : ℕ) → (i < at) ⊎ (at + n ≤ i)
    → get_or (unmasked_at at mask n bytes) i 0 ≡ get_or bytes i 0
at_out at zero mask bytes i out = refl
at_out at (suc n) mask bytes i out =
    get_or-set_other (unmasked_at at mask n bytes) (at + n) i
    (bit_xor (get_or (unmasked_at at mask n bytes) (at + n) 0) (get_or mask (n + 1) 0)) 0
    (elim out [ inl below ↦ omega arith | inr above ↦ omega arith ])
    ∙ at_out at n mask bytes i (elim out [ inl below ↦ inl below | inr above ↦ inr (omega arith) ])

at_in : (at n : ℕ) (mask bytes : List ℕ) (i : ℕ) → at ≤ i → i < at + n → at + n ≤ length bytes
    → get_or (unmasked_at at mask n bytes) i 0 ≡ bit_xor (get_or bytes i 0) (get_or mask (i - at + 1) 0)
at_in at zero mask bytes i from below room = absurd (omega arith)
at_in at (suc n) mask bytes i from below room =
    let before : List ℕ = unmasked_at at mask n bytes in
    let long : length before ≡ length bytes = at_len at n mask bytes in
    let joined : ℕ = bit_xor (get_or before (at + n) 0) (get_or mask (n + 1) 0) in
    elim (cases_eq i (at + n)) [
      | inl same ↦ (let place : n + 1 ≡ i - at + 1 = omega arith in
          ap (λ (k : ℕ). get_or (set before (at + n) joined) k 0) same
          ∙ get_or-set_same before (at + n) joined 0 (omega arith)
          ∙ ap (λ (x : ℕ). bit_xor x (get_or mask (n + 1) 0)) (at_out at n mask bytes (at + n) (inr (omega arith)))
          ∙ ap (λ (k : ℕ). bit_xor (get_or bytes k 0) (get_or mask (n + 1) 0)) (sym same)
          ∙ ap (λ (k : ℕ). bit_xor (get_or bytes i 0) (get_or mask k 0)) place)
      | inr other ↦ get_or-set_other before (at + n) i joined 0 other ∙ at_in at n mask bytes i from (omega arith) (omega arith)
    ]

-- the bytes after the first one, and the first one, are as they were
bytes_back : (start at n : ℕ) (mask bytes : List ℕ) (x : ℕ) → start < at → at + n ≤ length bytes
    → unmasked_at at mask n (set (unmasked_at at mask n (set bytes start x)) start (get_or bytes start 0)) ≡ bytes
bytes_back start at n mask bytes x behind room =
    let f : ℕ = get_or bytes start 0 in
    let once : List ℕ = set bytes start x in
    let once_len : length once ≡ length bytes = length-set bytes start x in
    let there : List ℕ = unmasked_at at mask n once in
    let there_len : length there ≡ length once = at_len at n mask once in
    let again : List ℕ = set there start f in
    let again_len : length again ≡ length there = length-set there start f in
    let kept : (i : ℕ) → (i < at) ⊎ (at + n ≤ i) → (i ≡ start → ⊥) → get_or (unmasked_at at mask n again) i 0 ≡ get_or bytes i 0 =
    λ i out other.
    at_out at n mask again i out ∙ get_or-set_other there start i f 0 other ∙ at_out at n mask once i out
    ∙ get_or-set_other bytes start i x 0 other in
    same_number_lists (unmasked_at at mask n again) bytes (at_len at n mask again ∙ again_len ∙ there_len ∙ once_len) (λ i lt.
    elim (cases_eq i start) [
      | inl here ↦ rw here (at_out at n mask again start (inl behind) ∙ get_or-set_same there start f 0 (omega arith))
      | inr other ↦ elim (cases_lt i at) [
        | inl before ↦ kept i (inl before) other
        | inr from ↦ elim (cases_lt i (at + n)) [
          | inl within ↦ at_in at n mask again i from within (omega arith)
              ∙ ap (λ (y : ℕ). bit_xor y (get_or mask (i - at + 1) 0))
              (get_or-set_other there start i f 0 other ∙ at_in at n mask once i from within (omega arith))
              ∙ xor_twice (get_or once i 0) (get_or mask (i - at + 1) 0)
              ∙ get_or-set_other bytes start i x 0 other
          | inr past ↦ kept i (inr past) other
        ]
      ]
    ])

pub masked_back : (at : ℕ) (mask bytes : List ℕ) → 0 < at → at + 4 ≤ length bytes
    → unmasked at mask (masked_packet at mask bytes) ≡ bytes
masked_back at mask bytes behind room =
    let f : ℕ = get_or bytes 0 0 in
    let x : ℕ = unmasked_first mask f in
    let n : ℕ = number_len f in
    let there : List ℕ = unmasked_at at mask n (set bytes 0 x) in
    let shown : get_or there 0 0 ≡ x =
    at_out at n mask (set bytes 0 x) 0 (inl behind) ∙ get_or-set_same bytes 0 x 0 (omega arith) in
    let first : unmasked_first mask (get_or there 0 0) ≡ f = ap (unmasked_first mask) shown ∙ first_twice mask f in
    ap (λ (g : ℕ). unmasked_at at mask (number_len g) (set there 0 g)) first
    ∙ bytes_back 0 at n mask bytes x behind (omega arith)
