-- The laws of the key that XORs one byte of the packet with its first byte and its number. Proofs are here because an
-- implementation proves its trait's laws only from definitions.
use Rattle.std.specs.Prelude.{◌≡◌, ℕ, ◌+◌, ◌/◌, ◌%◌, ◌<◌, ◌≤◌, Bool, true, false, List, length, nat_lt, bit_xor, refl, ◌⊎◌}
use Rattle.std.proofs.Common.{zero, suc, get_or, set, sym, ap, ◌∙◌, arith, length-set, inl, inr, subst}
use Rattle.std.proofs.lemmas.List.{get_or-set_other, get_or-set_same}
use Rattle.std.proofs.lemmas.Grind.{same_number_lists}
use Rattle.std.proofs.lemmas.Bool.{cases_eq, cases_lt}
use Rattle.std.proofs.lemmas.Bool.Decides.{nat_tests}
use lib.Bits.{xor_assoc, xor_self, xor_zero_r, xor_shr, xor_lt}
use Rattle.quic_base.specs.Number.{AreBytes}
use Rattle.quic_crypto.specs.Keys.{HasSample, Protects, Unprotects, ChangesHeader, first_unit, is_short, number_len}
use Rattle.quic_bench.specs.Mask.{mask_at, mask_protect, mask_unprotect}

-- ---- one byte

xor_twice : (a s : ℕ) → bit_xor (bit_xor a s) s ≡ a
xor_twice a s = xor_assoc a s s ∙ ap (bit_xor a) (xor_self s) ∙ xor_zero_r a

-- low bits leave the high ones
xor_high : (b : Bool) (a s : ℕ) → bit_xor a (s % first_unit b) / first_unit b ≡ a / first_unit b
xor_high true a s = xor_shr a (s % 32) 5 ∙ ap (bit_xor (a / 32)) (let none : s % 32 / 32 ≡ 0 = omega arith in none)
    ∙ xor_zero_r (a / 32)
xor_high false a s = xor_shr a (s % 16) 4 ∙ ap (bit_xor (a / 16)) (let none : s % 16 / 16 ≡ 0 = omega arith in none)
    ∙ xor_zero_r (a / 16)

short_stays : (b : Bool) (old new : ℕ) → new / first_unit b ≡ old / first_unit b → nat_lt new 128 ≡ nat_lt old 128
short_stays true old new same = grind (arith, nat_tests)
short_stays false old new same = grind (arith, nat_tests)

low_fits : (b : Bool) (a s : ℕ) → a < 256 → bit_xor a (s % first_unit b) < 256
low_fits true a s fits = xor_lt 8 a (s % 32) fits (omega arith)
low_fits false a s fits = xor_lt 8 a (s % 16) fits (omega arith)

-- ---- many bytes

mask_len : (at count s : ℕ) (bytes : List ℕ) → length (mask_at at count s bytes) ≡ length bytes
mask_len at zero s bytes = refl
mask_len at (suc count) s bytes =
    mask_len (at + 1) count s (set bytes at (bit_xor (get_or bytes at 0) s))
    ∙ length-set bytes at (bit_xor (get_or bytes at 0) s)

mask_out : (at count s : ℕ) (bytes : List ℕ) (i : ℕ) → (i < at) ⊎ (at + count ≤ i)
    → get_or (mask_at at count s bytes) i 0 ≡ get_or bytes i 0
mask_out at zero s bytes i out = refl
mask_out at (suc count) s bytes i out =
    mask_out (at + 1) count s (set bytes at (bit_xor (get_or bytes at 0) s)) i
    (elim out [ inl below ↦ inl (omega arith) | inr above ↦ inr (omega arith) ])
    ∙ get_or-set_other bytes at i (bit_xor (get_or bytes at 0) s) 0
    (elim out [ inl below ↦ omega arith | inr above ↦ omega arith ])

mask_in : (at count s : ℕ) (bytes : List ℕ) (i : ℕ) → at ≤ i → i < at + count → at + count ≤ length bytes
    → get_or (mask_at at count s bytes) i 0 ≡ bit_xor (get_or bytes i 0) s
mask_in at zero s bytes i from below room = absurd (omega arith)
mask_in at (suc count) s bytes i from below room =
    let rest = set bytes at (bit_xor (get_or bytes at 0) s) in
    let long : length rest ≡ length bytes = length-set bytes at (bit_xor (get_or bytes at 0) s) in
    elim (cases_eq i at) [
      | inl same ↦ mask_out (at + 1) count s rest i (inl (omega arith))
          ∙ rw same (get_or-set_same bytes at (bit_xor (get_or bytes at 0) s) 0 (omega arith))
      | inr other ↦ mask_in (at + 1) count s rest i (omega arith) (omega arith) (omega arith)
          ∙ ap (λ x. bit_xor x s) (get_or-set_other bytes at i (bit_xor (get_or bytes at 0) s) 0 other)
    ]

-- new is old with first instead of its first byte, and so many bytes from an offset on XORed with s
record Masked (at count s head : ℕ) (old new : List ℕ) : Type 0 where
  len : length new ≡ length old
  first : get_or new 0 0 ≡ head
  inside : (i : ℕ) → at ≤ i → i < at + count → get_or new i 0 ≡ bit_xor (get_or old i 0) s
  outside : (i : ℕ) → 0 < i → (i < at) ⊎ (at + count ≤ i) → get_or new i 0 ≡ get_or old i 0

-- the first byte is written before or after the number's
first_after : (at count s first : ℕ) (old : List ℕ) → 0 < at → at + count ≤ length old
    → Masked at count s first old (set (mask_at at count s old) 0 first)
first_after at count s first old from room =
    let mid = mask_at at count s old in
    let long : length mid ≡ length old = mask_len at count s old in
    record {
      len = length-set mid 0 first ∙ long;
      first = get_or-set_same mid 0 first 0 (omega arith);
      inside = λ i low high. get_or-set_other mid 0 i first 0 (omega arith) ∙ mask_in at count s old i low high room;
      outside = λ i pos out. get_or-set_other mid 0 i first 0 (omega arith) ∙ mask_out at count s old i out;
    }

first_before : (at count s first : ℕ) (old : List ℕ) → 0 < at → at + count ≤ length old
    → Masked at count s first old (mask_at at count s (set old 0 first))
first_before at count s first old from room =
    let mid = set old 0 first in
    let long : length mid ≡ length old = length-set old 0 first in
    record {
      len = mask_len at count s mid ∙ long;
      first = mask_out at count s mid 0 (inl from) ∙ get_or-set_same old 0 first 0 (omega arith);
      inside = λ i low high. mask_in at count s mid i low high (omega arith)
          ∙ ap (λ x. bit_xor x s) (get_or-set_other old 0 i first 0 (omega arith));
      outside = λ i pos out. mask_out at count s mid i out ∙ get_or-set_other old 0 i first 0 (omega arith);
    }

-- masking twice, with the first byte put back, restores the packet
masked_twice : (at count s x : ℕ) (old mid new : List ℕ) → 0 < at → Masked at count s x old mid
    → Masked at count s (get_or old 0 0) mid new → new ≡ old
masked_twice at count s x old mid new from there back = same_number_lists new old (back.len ∙ there.len) (λ i lt.
    elim (cases_eq i 0) [
      | inl zero_here ↦ rw zero_here back.first
      | inr later ↦ elim (cases_lt i at) [
        | inl before ↦ back.outside i (omega arith) (inl before) ∙ there.outside i (omega arith) (inl before)
        | inr from_at ↦ elim (cases_lt i (at + count)) [
          | inl within ↦ back.inside i from_at within ∙ ap (λ y. bit_xor y s) (there.inside i from_at within)
              ∙ xor_twice (get_or old i 0) s
          | inr past ↦ back.outside i (omega arith) (inr past) ∙ there.outside i (omega arith) (inr past)
        ]
      ]
    ])

-- what masking changes
masked_header : (at count s : ℕ) (old new : List ℕ) → 0 < at → AreBytes old → s < 256
    → Masked at count s (bit_xor (get_or old 0 0) (s % first_unit (is_short old))) old new
    → ChangesHeader at count old new
masked_header at count s old new from bytes fits m = record {
  len = m.len;
  bytes = λ i. elim (cases_eq i 0) [
    | inl zero_here ↦ rw (zero_here, m.first) (low_fits (is_short old) (get_or old 0 0) s (bytes 0))
    | inr later ↦ elim (cases_lt i at) [
      | inl before ↦ rw (m.outside i (omega arith) (inl before)) (bytes i)
      | inr from_at ↦ elim (cases_lt i (at + count)) [
        | inl within ↦ rw (m.inside i from_at within) (xor_lt 8 (get_or old i 0) s (bytes i) fits)
        | inr past ↦ rw (m.outside i (omega arith) (inr past)) (bytes i)
      ]
    ]
  ];
  first = rw m.first (xor_high (is_short old) (get_or old 0 0) s);
  before = λ i pos below. m.outside i pos (inl below);
  after = λ i past. m.outside i (omega arith) (inr past);
}

-- if fewer bytes change than may
wider : (at few many : ℕ) (old new : List ℕ) → few ≤ many → ChangesHeader at few old new → ChangesHeader at many old new
wider at few many old new le c = record
    { len = c.len; bytes = c.bytes; first = c.first; before = c.before; after = λ i past. c.after i (omega arith) }

protect_is : (at : ℕ) (packet : List ℕ) → 0 < at
    → let f = get_or packet 0 0 in let s = get_or packet (at + 4) 0 in
    mask_protect at packet ≡ set (mask_at at (number_len f) s packet) 0 (bit_xor f (s % first_unit (is_short packet)))
protect_is at packet from =
    let s = get_or packet (at + 4) 0 in
    let mid = mask_at at (number_len (get_or packet 0 0)) s packet in
    ap (λ (g : ℕ). set mid 0 (bit_xor g (s % first_unit (nat_lt g 128))))
    (mask_out at (number_len (get_or packet 0 0)) s packet 0 (inl from))

unprotect_is : (at : ℕ) (packet : List ℕ) → 0 < length packet
    → let s = get_or packet (at + 4) 0 in let v = bit_xor (get_or packet 0 0) (s % first_unit (is_short packet)) in
    mask_unprotect at packet ≡ mask_at at (number_len v) s (set packet 0 v)
unprotect_is at packet long =
    let s = get_or packet (at + 4) 0 in
    let v = bit_xor (get_or packet 0 0) (s % first_unit (is_short packet)) in
    ap (λ (g : ℕ). mask_at at (number_len g) s (set packet 0 v)) (get_or-set_same packet 0 v 0 long)

number_short : (f : ℕ) → number_len f ≤ 4
number_short f = omega arith

pub mask_protects : (at : ℕ) (packet : List ℕ) → AreBytes packet → HasSample 1 at packet
    → Protects at packet (mask_protect at packet)
mask_protects at packet bytes room =
    let f = get_or packet 0 0 in
    let s = get_or packet (at + 4) 0 in
    let x = bit_xor f (s % first_unit (is_short packet)) in
    subst (λ (p : List ℕ). ChangesHeader at (number_len f) packet p) (sym (protect_is at packet room.after_first))
    (masked_header at (number_len f) s packet (set (mask_at at (number_len f) s packet) 0 x) room.after_first bytes
    (bytes (at + 4))
    (first_after at (number_len f) s x packet room.after_first (omega (arith, number_short f, room.room))))

pub mask_unprotects : (at : ℕ) (packet : List ℕ) → AreBytes packet → HasSample 1 at packet
    → Unprotects at packet (mask_unprotect at packet)
mask_unprotects at packet bytes room =
    let f = get_or packet 0 0 in
    let s = get_or packet (at + 4) 0 in
    let x = bit_xor f (s % first_unit (is_short packet)) in
    let n = number_len x in
    subst (λ (p : List ℕ). ChangesHeader at 4 packet p) (sym (unprotect_is at packet (omega (arith, room.room))))
    (wider at n 4 packet (mask_at at n s (set packet 0 x)) (number_short x)
    (masked_header at n s packet (mask_at at n s (set packet 0 x)) room.after_first bytes (bytes (at + 4))
    (first_before at n s x packet room.after_first (omega (arith, number_short x, room.room)))))

restored : (at : ℕ) (packet mid : List ℕ) → HasSample 1 at packet
    → let f = get_or packet 0 0 in let s = get_or packet (at + 4) 0 in
    Masked at (number_len f) s (bit_xor f (s % first_unit (is_short packet))) packet mid
    → mask_unprotect at mid ≡ packet
restored at packet mid room there =
    let f = get_or packet 0 0 in
    let s = get_or packet (at + 4) 0 in
    let unit = first_unit (is_short packet) in
    let x = bit_xor f (s % unit) in
    let n = number_len f in
    let short_n : n ≤ 4 = number_short f in
    let long : length mid ≡ length packet = there.len in
    let enough : at + 4 + 1 ≤ length packet = room.room in
    let from : 0 < at = room.after_first in
    let same_s : get_or mid (at + 4) 0 ≡ s = there.outside (at + 4) (omega arith) (inr (omega arith)) in
    let short : is_short mid ≡ is_short packet =
    ap (λ (g : ℕ). nat_lt g 128) there.first ∙ short_stays (is_short packet) f x (xor_high (is_short packet) f s) in
    let v = bit_xor (get_or mid 0 0) (get_or mid (at + 4) 0 % first_unit (is_short mid)) in
    let v_is : v ≡ f =
    ap (λ (g : ℕ). bit_xor g (get_or mid (at + 4) 0 % first_unit (is_short mid))) there.first
    ∙ ap (λ (t : ℕ). bit_xor x (t % first_unit (is_short mid))) same_s
    ∙ ap (λ (b : Bool). bit_xor x (s % first_unit b)) short
    ∙ xor_twice f (s % unit) in
    unprotect_is at mid (omega arith)
    ∙ ap (λ (g : ℕ). mask_at at (number_len g) (get_or mid (at + 4) 0) (set mid 0 g)) v_is
    ∙ ap (λ (t : ℕ). mask_at at n t (set mid 0 f)) same_s
    ∙ masked_twice at n s x packet mid (mask_at at n s (set mid 0 f)) from there
    (first_before at n s f mid from (omega arith))

pub mask_restores : (at : ℕ) (packet : List ℕ) → HasSample 1 at packet
    → mask_unprotect at (mask_protect at packet) ≡ packet
mask_restores at packet room =
    let f = get_or packet 0 0 in
    let s = get_or packet (at + 4) 0 in
    let x = bit_xor f (s % first_unit (is_short packet)) in
    ap (mask_unprotect at) (protect_is at packet room.after_first)
    ∙ restored at packet (set (mask_at at (number_len f) s packet) 0 x) room
    (first_after at (number_len f) s x packet room.after_first (omega (arith, number_short f, room.room)))
