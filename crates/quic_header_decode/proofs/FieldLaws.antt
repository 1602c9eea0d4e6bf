-- The fields of a header: as functions that read them, and as relations to their encodings.
use Rattle.std.specs.Prelude.{◌≡◌, ℕ, ◌+◌, ◌-◌, ◌<◌, ◌≤◌, ◌^◌, false, List, [], ◌∷◌, ◌++◌, length, take, drop, Option, Some, None, nat_lt, ◌||◌}
use Rattle.std.proofs.Common.{sym, ap, subst, ◌∙◌, arith, refl, suc, inl, inr, length-append}
use Rattle.std.proofs.lemmas.List.{take-append-drop, length-take}
use Rattle.std.proofs.Math.Seq.{drop-append_seam, take-append_seam}
use Rattle.std.proofs.lemmas.Bool.Decides.{nat_tests}
use Rattle.quic_base.specs.Number.{AreBytes, IsNumber, num, bytes_of}
use Rattle.quic_base.specs.Codec.{Takes, NoFront}
use Rattle.quic_base.specs.Varint.{Encodes}
use Rattle.quic_base.specs.Reading.{number_at}
use Rattle.quic_base.specs.ConnectionId.{IsLongId, long_id}
use Rattle.quic_base.proofs.PublicLaws as law
use Rattle.quic_header_decode.specs.Reading.{word_at, long_id_at}
use Rattle.quic_header_decode.proofs.Steps.{chosen, none_some, some_same, pair_parts, option_cases, otherwise, some_pair, take_front, drop_front}

-- no front of the bytes is an id after its length
abbrev pub NoId : List ℕ → Type 0
NoId bytes = (id : List ℕ) → NoFront (IsLongId id) bytes

-- no front of the bytes is an encoding of a number
abbrev pub NoNumber : List ℕ → Type 0
NoNumber bytes = (v : ℕ) → NoFront (Encodes v) bytes

-- ---- bytes of parts

pub front_fits : (bytes front back : List ℕ) → AreBytes bytes → bytes ≡ front ++ back → AreBytes front
front_fits bytes front back fits split = law.front_bytes front back (subst AreBytes split fits)

pub back_fits : (bytes front back : List ℕ) → AreBytes bytes → bytes ≡ front ++ back → AreBytes back
back_fits bytes front back fits split = law.back_bytes front back (subst AreBytes split fits)

-- ---- a byte

-- ---- four bytes

word_split : (bytes : List ℕ) (n : ℕ) (rest : List ℕ) → AreBytes bytes → 4 ≤ length bytes
    → (num (take 4 bytes) ≡ n) × (drop 4 bytes ≡ rest) → (bytes ≡ bytes_of 4 n ++ rest) × (n < 2 ^ 32)
word_split bytes n rest fits long parts =
    let four : length (take 4 bytes) ≡ 4 = omega (arith, length-take 4 bytes) in
    let whole : bytes ≡ take 4 bytes ++ drop 4 bytes = sym (take-append-drop 4 bytes) in
    let part : AreBytes (take 4 bytes) = front_fits bytes (take 4 bytes) (drop 4 bytes) fits whole in
    let below : num (take 4 bytes) < 256 ^ 4 =
    subst (λ (k : ℕ). num (take 4 bytes) < 256 ^ k) four (law.num_below (take 4 bytes) part) in
    let small : n < 2 ^ 32 = omega (arith, below, parts.0) in
    let is : IsNumber 4 n (bytes_of 4 n) = law.is_number_4 n small in
    let front : take 4 bytes ≡ bytes_of 4 n =
    law.num_injective (take 4 bytes) (bytes_of 4 n) part is.bytes (four ∙ sym is.width) (parts.0 ∙ sym is.value) in
    (whole ∙ ap (λ (xs : List ℕ). xs ++ drop 4 bytes) front ∙ ap (λ (xs : List ℕ). bytes_of 4 n ++ xs) parts.1, small)

pub word_found : (bytes : List ℕ) (n : ℕ) (rest : List ℕ) → AreBytes bytes → word_at bytes ≡ Some (n, rest)
    → (bytes ≡ bytes_of 4 n ++ rest) × (n < 2 ^ 32)
word_found bytes n rest fits e =
    elim (chosen {A = Option (ℕ × List ℕ)} (nat_lt (length bytes) 4) None (Some (num (take 4 bytes), drop 4 bytes)) (Some (n, rest)) e) [
      | inl short ↦ absurd (none_some (n, rest) short.1)
      | inr long ↦ word_split bytes n rest fits (let le : 4 ≤ length bytes = grind (arith, nat_tests) in le) (pair_parts (some_same long.1))
    ]

pub word_of : (text rest : List ℕ) (n : ℕ) → length text ≡ 4 → num text ≡ n → word_at (text ++ rest) ≡ Some (n, rest)
word_of text rest n four value =
    let long : length (text ++ rest) ≡ length text + length rest = length-append text rest in
    let test : nat_lt (length (text ++ rest)) 4 ≡ false = grind (arith, nat_tests) in
    otherwise (nat_lt (length (text ++ rest)) 4) None (Some (num (take 4 (text ++ rest)), drop 4 (text ++ rest))) (Some (n, rest)) test
    (some_pair (num (take 4 (text ++ rest))) n (drop 4 (text ++ rest)) rest
    (ap num (take_front text rest 4 four) ∙ value) (drop_front text rest 4 four))

-- ---- ids

pub id_found : (bytes id rest : List ℕ) → long_id_at bytes ≡ Some (id, rest)
    → (length id ≤ 20) × (bytes ≡ long_id id ++ rest)
id_found [] id rest e = absurd cc
id_found (n ∷ bytes) id rest e =
    elim (chosen {A = Option (List ℕ × List ℕ)} (nat_lt 20 n || nat_lt (length bytes) n) None
    (Some (take n bytes, drop n bytes)) (Some (id, rest)) e) [
      | inl bad ↦ absurd (none_some (id, rest) bad.1)
      | inr good ↦
          let parts = pair_parts (some_same good.1) in
          let short : n ≤ 20 = grind (arith, nat_tests) in
          let room : n ≤ length bytes = grind (arith, nat_tests) in
          let len : length id ≡ n = omega (arith, length-take n bytes, ap length parts.0) in (
            omega arith,
            ap (λ (xs : List ℕ). n ∷ xs) (sym (take-append-drop n bytes))
                ∙ ap (λ (m : ℕ). m ∷ (take n bytes ++ drop n bytes)) (sym len)
                ∙ ap (λ (xs : List ℕ). length id ∷ (xs ++ drop n bytes)) parts.0
                ∙ ap (λ (xs : List ℕ). length id ∷ (id ++ xs)) parts.1,
          )
    ]

pub id_again : (id rest : List ℕ) → length id ≤ 20 → long_id_at (long_id id ++ rest) ≡ Some (id, rest)
id_again id rest short =
    let long : length (id ++ rest) ≡ length id + length rest = length-append id rest in
    let t1 : nat_lt 20 (length id) ≡ false = grind (arith, nat_tests) in
    let t2 : nat_lt (length (id ++ rest)) (length id) ≡ false = grind (arith, nat_tests) in
    let test : (nat_lt 20 (length id) || nat_lt (length (id ++ rest)) (length id)) ≡ false = rw (t1, t2) in
    otherwise (nat_lt 20 (length id) || nat_lt (length (id ++ rest)) (length id)) None
    (Some (take (length id) (id ++ rest), drop (length id) (id ++ rest))) (Some (id, rest)) test
    (some_pair (take (length id) (id ++ rest)) id (drop (length id) (id ++ rest)) rest (take-append_seam id rest)
    (drop-append_seam id rest))

-- what is after its length is an id
is_long_id : (bytes id rest : List ℕ) → AreBytes bytes → length id ≤ 20 → bytes ≡ long_id id ++ rest
    → IsLongId id (long_id id)
is_long_id bytes id rest fits short split =
    record { bytes = λ i. front_fits bytes (long_id id) rest fits split (suc i); short = short; value = refl }

pub id_without : (bytes : List ℕ) → AreBytes bytes → NoId bytes → long_id_at bytes ≡ None
id_without bytes fits none = elim (option_cases (long_id_at bytes)) [
  | inl e ↦ e
  | inr found ↦
      let parts = id_found bytes found.0.0 found.0.1 found.1 in
      absurd (none found.0.0 (long_id found.0.0) found.0.1 parts.1 (is_long_id bytes found.0.0 found.0.1 fits parts.0 parts.1))
]

-- ---- numbers

pub var_found : (bytes : List ℕ) (v : ℕ) (rest : List ℕ) → AreBytes bytes → number_at bytes ≡ Some (v, rest)
    → (text : List ℕ) × Encodes v text × (bytes ≡ text ++ rest)
var_found bytes v rest fits e = let t = law.number_taken bytes v rest fits e in (t.front, t.is, t.split)

pub var_again : (v : ℕ) (text rest : List ℕ) → Encodes v text → number_at (text ++ rest) ≡ Some (v, rest)
var_again = law.number_again

pub var_without : (bytes : List ℕ) → AreBytes bytes → NoNumber bytes → number_at bytes ≡ None
var_without = law.no_number

-- ---- what calls of decoders consumed

pub var_taken : (v : ℕ) (old new : List ℕ) → Takes (Encodes v) old new → number_at old ≡ Some (v, new)
var_taken v old new t = ap number_at t.split ∙ law.number_again v t.front new t.is

pub id_taken : (id old new : List ℕ) → Takes (IsLongId id) old new → long_id_at old ≡ Some (id, new)
id_taken id old new t =
    ap long_id_at (t.split ∙ ap (λ (xs : List ℕ). xs ++ new) t.is.value) ∙ id_again id new t.is.short

pub left_behind : (K : List ℕ → Type 0) (old new : List ℕ) → Takes K old new → drop (length old - length new) old ≡ new
left_behind K old new t =
    let front : length t.front ≡ length old - length new =
    omega (arith, ap length t.split, length-append t.front new) in
    ap (drop (length old - length new)) t.split ∙ drop_front t.front new (length old - length new) front

pub left_short : (K : List ℕ → Type 0) (old new : List ℕ) → Takes K old new → length new ≤ length old
left_short K old new t = omega (arith, ap length t.split, length-append t.front new)

pub ruleset reading = (var_taken, id_taken, left_behind, left_short, var_without, id_without)
