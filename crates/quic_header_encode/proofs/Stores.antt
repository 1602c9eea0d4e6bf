-- What is written at the front of an array.
use Rattle.std.proofs.Common.{◌≡◌, ℕ, ◌+◌, ◌-◌, ◌<◌, ◌≤◌, ◌^◌, List, [], ◌∷◌, ◌++◌, length, take, drop, sym, ap, ◌∙◌, arith}
use Rattle.std.proofs.Math.Seq.{take-append-add, take-append_seam}
use Rattle.std.proofs.lemmas.Bool.Decides.{nat_tests}
use Rattle.std.proofs.lemmas.List.{append-nil, append_assoc, length-append, length-take-le, take-append-drop, take-append-le, take-take}
use Rattle.std.specs.Int.{byte_at}
use Rattle.quic_base.specs.Number.{bytes_of}
use Rattle.quic_base.specs.Varint.{encoding_in, shortest_varint, size}
use Rattle.quic_header_encode.specs.Writing.{with_len}

-- a number below 64 is encoded by itself
pub short_small : (n : ℕ) → n < 64 → shortest_varint n ≡ n ∷ []
unfolding shortest_varint
short_small n h = grind (arith, nat_tests)

pub size_small : (n : ℕ) → n < 64 → size n ≡ 1
unfolding size
size_small n h = grind (arith, nat_tests)

-- what was written over bytes, if nothing after it changed
pub stored_over : (at end : ℕ) (old new bytes : List ℕ) → take end new ≡ take at old ++ bytes
    → drop end new ≡ drop end old
    → new ≡ take at old ++ (bytes ++ drop end old)
stored_over at end old new bytes front back =
    sym (take-append-drop end new) ∙ ap (λ (xs : List ℕ). xs ++ drop end new) front
    ∙ ap (λ (xs : List ℕ). (take at old ++ bytes) ++ xs) back ∙ append_assoc (take at old) bytes (drop end old)

-- a length was written before an offset
pub len_stored : (width place end : ℕ) (old new bytes : List ℕ) → end ≡ place
    → bytes ≡ encoding_in width (length old - place)
    → take end new ≡ take (place - width) old ++ bytes → drop end new ≡ drop end old → new ≡ with_len width place old
len_stored width place end old new bytes at is front back =
    stored_over (place - width) end old new bytes front back
    ∙ ap (λ (i : ℕ). take (place - width) old ++ (bytes ++ drop i old)) at
    ∙ ap (λ (xs : List ℕ). take (place - width) old ++ (xs ++ drop place old)) is

-- what was written at an offset has its first k elements there
pub shorter_stored : (k n at : ℕ) (head stored bytes : List ℕ) → k ≤ n → at ≤ length head
    → take (at + n) stored ≡ take at head ++ bytes → take (at + k) stored ≡ take at head ++ take k bytes
shorter_stored k n at head stored bytes shortest_varint within is =
    sym (take-take (at + k) (at + n) stored (omega arith)) ∙ ap (take (at + k)) is
    ∙ ap (λ (i : ℕ). take (i + k) (take at head ++ bytes)) (sym (length-take-le at head within))
    ∙ take-append-add (take at head) bytes k

-- the first k of n elements were written at an offset, and then the last k over them
pub both_ends : (k n at : ℕ) (xs head once twice : List ℕ) → n ≡ length xs → k ≤ n → n ≤ k + k → at ≤ length head
    → take (at + k) once ≡ take at head ++ take k xs
    → take (at + (n - k) + k) twice ≡ take (at + (n - k)) once ++ drop (n - k) xs
    → take (at + n) twice ≡ take at head ++ xs
both_ends k n at xs head once twice is enough covers within first last =
    let m : ℕ = n - k in
    let front : take (at + m) once ≡ take at head ++ take m xs =
    shorter_stored m k at head once (take k xs) (omega arith) within first
    ∙ ap (λ (ys : List ℕ). take at head ++ ys) (take-take m k xs (omega arith)) in
    let place : at + n ≡ at + m + k = omega arith in
    ap (λ (i : ℕ). take i twice) place ∙ last ∙ ap (λ (ys : List ℕ). ys ++ drop m xs) front
    ∙ append_assoc (take at head) (take m xs) (drop m xs)
    ∙ ap (λ (ys : List ℕ). take at head ++ ys) (take-append-drop m xs)

-- a token that is written is after its length in one byte
pub token_stored : (n : ℕ) (token front stored : List ℕ) → n ≡ length token → n < 64 → stored ≡ front ++ n ∷ []
    → stored ++ token ≡ front ++ (shortest_varint (length token) ++ token)
token_stored n token front stored is small e =
    ap (λ (ys : List ℕ). ys ++ token) e ∙ append_assoc front (n ∷ []) token
    ∙ ap (λ (ys : List ℕ). front ++ (ys ++ token)) (sym (short_small n small) ∙ ap shortest_varint is)

pub no_token_stored : (n : ℕ) (token front stored : List ℕ) → n ≡ length token → n ≡ 0 → stored ≡ front ++ n ∷ []
    → stored ≡ front ++ (shortest_varint (length token) ++ token)
no_token_stored n [] front stored is none e =
    sym (append-nil stored) ∙ token_stored n [] front stored is (omega (arith, none)) e
no_token_stored n (x ∷ xs) front stored is none e = absurd (omega arith)

-- a header was written over zeros that had been appended, and the zeros after it were removed
pub stored_behind : (n k all : ℕ) (old zeros both head post rest bytes : List ℕ) → n ≡ length old → both ≡ old ++ zeros
    → k ≤ length head → n + k ≤ all
    → take k head ≡ bytes → take (n + k) (take all ((take n both ++ (head ++ post)) ++ rest)) ≡ old ++ bytes
stored_behind n k all old zeros both head post rest bytes is stood within fits front =
    let start : take n both ≡ old =
    ap (take n) stood ∙ ap (λ (i : ℕ). take i (old ++ zeros)) is ∙ take-append_seam old zeros in
    let kept : k ≤ length (head ++ post) = omega (arith, within, length-append head post) in
    take-take (n + k) all _ fits
    ∙ ap (λ (xs : List ℕ). take (n + k) ((xs ++ (head ++ post)) ++ rest)) start
    ∙ ap (λ (i : ℕ). take (i + k) ((old ++ (head ++ post)) ++ rest)) is
    ∙ ap (take (length old + k)) (append_assoc old (head ++ post) rest)
    ∙ take-append-add old ((head ++ post) ++ rest) k
    ∙ ap (λ (ys : List ℕ). old ++ ys) (take-append-le k (head ++ post) rest kept ∙ take-append-le k head post within ∙ front)

-- numbers of one, three and four bytes, the second shifted to the front of four
pub number_1 : (x : ℕ) → x < 2 ^ 8 → x ∷ [] ≡ bytes_of 1 x
unfolding bytes_of
number_1 x h = let a : byte_at 0 x ≡ x = omega arith in cc

pub ruleset numbers = (number_1)
