-- Lemmas on big-endian numbers.
use Rattle.std.proofs.Common.{◌≡◌, ℕ, zero, suc, ◌+◌, ◌*◌, ◌/◌, ◌%◌, ◌^◌, ◌<◌, List, [], ◌∷◌, ◌++◌, length, take, drop, get_or, refl, sym, ◌∙◌, ap, arith, lit<, length-append}
use Rattle.std.proofs.Math.Nat.{pow-suc}
use Rattle.std.proofs.Math.Seq.{take-append_seam, drop-append_seam}
use Rattle.std.proofs.lemmas.Nat.{mul-add-lt, div-mul-add, mod-mul-add, mod_below, div-add-mod', from_be_bytes-to_be_bytes_2, from_be_bytes-to_be_bytes_4, from_be_bytes-to_be_bytes_8}
use Rattle.std.specs.Int.{w16, w32, w64, from_be_bytes, to_be_bytes, byte_at}
use Rattle.std.specs.Net.Addr.{segments_of, octets_of, ipv6_octets}
use Rattle.std.specs.declared.net.ipv6_addr.Ipv6Addr.{Ipv6Addr}
use Rattle.quic_base.specs.Number.{AreBytes, num, IsNumber, IsOctets, bytes_of}
use Rattle.quic_base.specs.Codec.{Takes, NoFront}

pub tail_bytes : (x : ℕ) (xs : List ℕ) → AreBytes (x ∷ xs) → AreBytes xs
tail_bytes x xs h = λ i. h (suc i)

pub cons_bytes : (x : ℕ) (xs : List ℕ) → x < 256 → AreBytes xs → AreBytes (x ∷ xs)
cons_bytes x xs hx h zero = hx
cons_bytes x xs hx h (suc i) = h i

pub nil_bytes : AreBytes []
nil_bytes = λ i. lit< tt

-- the parts of a list of bytes are bytes
pub front_bytes : (front back : List ℕ) → AreBytes (front ++ back) → AreBytes front
front_bytes [] back h i = lit< tt
front_bytes (x ∷ front) back h zero = h 0
front_bytes (x ∷ front) back h (suc i) = front_bytes front back (λ j. h (suc j)) i

pub back_bytes : (front back : List ℕ) → AreBytes (front ++ back) → AreBytes back
back_bytes [] back h = h
back_bytes (x ∷ front) back h = back_bytes front back (λ j. h (suc j))

-- a number of k bytes is below 256 to the k
pub num_below : (b : List ℕ) → AreBytes b → num b < 256 ^ length b
num_below [] h = lit< tt
num_below (x ∷ xs) h =
    let ih : num xs < 256 ^ length xs = num_below xs (tail_bytes x xs h) in
    let hx : x < 256 = h 0 in
    rw pow-suc (mul-add-lt x (256 ^ length xs) (num xs) 256 hx ih)

same_lead : (x y p m n : ℕ) → m < p → n < p → x * p + m ≡ y * p + n → x ≡ y
same_lead x y p m n hm hn e = sym (div-mul-add x p m hm) ∙ ap (λ z. z / p) e ∙ div-mul-add y p n hn

same_rest : (x y p m n : ℕ) → m < p → n < p → x * p + m ≡ y * p + n → m ≡ n
same_rest x y p m n hm hn e = sym (mod-mul-add x p m hm) ∙ ap (λ z. z % p) e ∙ mod-mul-add y p n hn

-- a number has one encoding in k bytes
pub num_injective : (a b : List ℕ) → AreBytes a → AreBytes b → length a ≡ length b → num a ≡ num b → a ≡ b
num_injective [] [] ha hb el en = refl
num_injective [] (y ∷ ys) ha hb el en = absurd (omega arith)
num_injective (x ∷ xs) [] ha hb el en = absurd (omega arith)
num_injective (x ∷ xs) (y ∷ ys) ha hb el en =
    let l : length xs ≡ length ys = omega arith in
    let bx : num xs < 256 ^ length xs = num_below xs (tail_bytes x xs ha) in
    let by : num ys < 256 ^ length xs = rw l (num_below ys (tail_bytes y ys hb)) in
    let e : x * 256 ^ length xs + num xs ≡ y * 256 ^ length xs + num ys = en ∙ ap (λ k. y * 256 ^ k + num ys) (sym l) in
    let hd : x ≡ y = same_lead x y (256 ^ length xs) (num xs) (num ys) bx by e in
    let tl : xs ≡ ys =
    num_injective xs ys (tail_bytes x xs ha) (tail_bytes y ys hb) l (same_rest x y (256 ^ length xs) (num xs) (num ys) bx by e) in
    cc

-- what the program reads from k bytes
pub from_be_1 : (b : List ℕ) → length b ≡ 1 → get_or b 0 0 ≡ num b
from_be_1 (x ∷ []) h = omega arith
from_be_1 _ h = absurd (omega arith)

pub from_be_2 : (b : List ℕ) → length b ≡ 2 → from_be_bytes w16 b ≡ num b
from_be_2 (x ∷ y ∷ []) h = omega arith
from_be_2 _ h = absurd (omega arith)

pub from_be_4 : (b : List ℕ) → length b ≡ 4 → from_be_bytes w32 b ≡ num b
from_be_4 (x ∷ y ∷ z ∷ w ∷ []) h = omega arith
from_be_4 _ h = absurd (omega arith)

pub from_be_8 : (b : List ℕ) → length b ≡ 8 → from_be_bytes w64 b ≡ num b
from_be_8 (a ∷ b ∷ c ∷ d ∷ e ∷ f ∷ g ∷ i ∷ []) h = omega arith
from_be_8 _ h = absurd (omega arith)

-- what the program writes
byte_at_below : (i n : ℕ) → byte_at i n < 256
byte_at_below zero n = mod_below n 256 (lit< tt)
byte_at_below (suc i) n = mod_below (n / 256 ^ suc i) 256 (lit< tt)

pub bytes_of_are_bytes : (k n : ℕ) → AreBytes (bytes_of k n)
unfolding bytes_of
bytes_of_are_bytes zero n = nil_bytes
bytes_of_are_bytes (suc k) n = cons_bytes (byte_at k n) (bytes_of k n) (byte_at_below k n) (bytes_of_are_bytes k n)

pub length-bytes_of : (k n : ℕ) → length (bytes_of k n) ≡ k
unfolding bytes_of
length-bytes_of zero n = refl
length-bytes_of (suc k) n = ap suc (length-bytes_of k n)

pub num-bytes_of_1 : (n : ℕ) → n < 2 ^ 8 → num (bytes_of 1 n) ≡ n
unfolding bytes_of
num-bytes_of_1 n h = omega arith

pub num-bytes_of_2 : (n : ℕ) → n < 2 ^ 16 → num (bytes_of 2 n) ≡ n
unfolding bytes_of
num-bytes_of_2 n h = sym (from_be_2 (to_be_bytes w16 n) refl) ∙ from_be_bytes-to_be_bytes_2 n h

pub num-bytes_of_4 : (n : ℕ) → n < 2 ^ 32 → num (bytes_of 4 n) ≡ n
unfolding bytes_of
num-bytes_of_4 n h = sym (from_be_4 (to_be_bytes w32 n) refl) ∙ from_be_bytes-to_be_bytes_4 n h

pub num-bytes_of_8 : (n : ℕ) → n < 2 ^ 64 → num (bytes_of 8 n) ≡ n
unfolding bytes_of
num-bytes_of_8 n h = sym (from_be_8 (to_be_bytes w64 n) refl) ∙ from_be_bytes-to_be_bytes_8 n h

-- of two equal lists, fronts of one length are equal
pub same_front : (b c r s : List ℕ) → length b ≡ length c → b ++ r ≡ c ++ s → b ≡ c
same_front b c r s l e =
    sym (take-append_seam b r) ∙ ap (take (length b)) e ∙ ap (λ n. take n (c ++ s)) l ∙ take-append_seam c s

pub same_back : (b c r s : List ℕ) → length b ≡ length c → b ++ r ≡ c ++ s → r ≡ s
same_back b c r s l e =
    sym (drop-append_seam b r) ∙ ap (drop (length b)) e ∙ ap (λ n. drop n (c ++ s)) l ∙ drop-append_seam c s

-- a number is encoded by its bytes
pub is_number_1 : (n : ℕ) → n < 2 ^ 8 → IsNumber 1 n (bytes_of 1 n)
is_number_1 n h = record { bytes = bytes_of_are_bytes 1 n; width = length-bytes_of 1 n; value = num-bytes_of_1 n h }

pub is_number_2 : (n : ℕ) → n < 2 ^ 16 → IsNumber 2 n (bytes_of 2 n)
is_number_2 n h = record { bytes = bytes_of_are_bytes 2 n; width = length-bytes_of 2 n; value = num-bytes_of_2 n h }

pub is_number_4 : (n : ℕ) → n < 2 ^ 32 → IsNumber 4 n (bytes_of 4 n)
is_number_4 n h = record { bytes = bytes_of_are_bytes 4 n; width = length-bytes_of 4 n; value = num-bytes_of_4 n h }

pub is_number_8 : (n : ℕ) → n < 2 ^ 64 → IsNumber 8 n (bytes_of 8 n)
is_number_8 n h = record { bytes = bytes_of_are_bytes 8 n; width = length-bytes_of 8 n; value = num-bytes_of_8 n h }

-- what is read from k bytes, and what if there are fewer
pub takes_number : (k : ℕ) (old new b : List ℕ) (n : ℕ) → old ≡ b ++ new → length b ≡ k → AreBytes b → num b ≡ n
    → Takes (IsNumber k n) old new
takes_number k old new b n e l h v = record { front = b; split = e; is = record { bytes = h; width = l; value = v } }

pub no_number : (k : ℕ) (r : List ℕ) → length r < k → (n : ℕ) → NoFront (IsNumber k n) r
no_number k r few n b s e is =
    let l : length r ≡ length b + length s = ap length e ∙ length-append b s in
    omega (arith, is.width)

-- a number of k bytes has one encoding
pub number_unique : (k m n : ℕ) (b c r s : List ℕ) → b ++ r ≡ c ++ s → IsNumber k m b → IsNumber k n c
    → (m ≡ n) × (b ≡ c) × (r ≡ s)
number_unique k m n b c r s e p q =
    let l : length b ≡ length c = p.width ∙ sym q.width in
    let f : b ≡ c = same_front b c r s l e in
    (sym p.value ∙ ap num f ∙ q.value, f, same_back b c r s l e)

-- octets have one encoding
pub octets_unique : (k : ℕ) (o p b c r s : List ℕ) → b ++ r ≡ c ++ s → IsOctets k o b → IsOctets k p c
    → (o ≡ p) × (b ≡ c) × (r ≡ s)
octets_unique k o p b c r s e x y =
    let l : length b ≡ length c = x.width ∙ sym y.width in
    let f : b ≡ c = same_front b c r s l e in
    (sym x.value ∙ f ∙ y.value, f, same_back b c r s l e)

-- cutting segments in two loses nothing
segments_of-octets_of : (s : List ℕ) → segments_of (octets_of s) ≡ s
segments_of-octets_of [] = refl
segments_of-octets_of (x ∷ xs) =
    let e : x / 256 * 256 + x % 256 ≡ x = div-add-mod' x 256 in
    let ih : segments_of (octets_of xs) ≡ xs = segments_of-octets_of xs in
    rw (e, ih) refl

-- an address has one encoding
pub ipv6_unique : (x y : Ipv6Addr) (b c r s : List ℕ) → b ++ r ≡ c ++ s → IsOctets 16 (ipv6_octets x) b
    → IsOctets 16 (ipv6_octets y) c → (x ≡ y) × (b ≡ c) × (r ≡ s)
ipv6_unique x y b c r s e p q =
    let u = octets_unique 16 (ipv6_octets x) (ipv6_octets y) b c r s e p q in
    let same : x.segments ≡ y.segments =
    sym (segments_of-octets_of x.segments) ∙ ap segments_of u.0 ∙ segments_of-octets_of y.segments in
    (ap (λ (o : List ℕ). let a : Ipv6Addr = record { segments = o } in a) same, u.1, u.2)

-- joining octets by twos loses nothing
octets_of-segments_of : (n : ℕ) (b : List ℕ) → length b ≡ n + n → AreBytes b → octets_of (segments_of b) ≡ b
octets_of-segments_of zero [] l h = refl
octets_of-segments_of zero (x ∷ b) l h = absurd (omega arith)
octets_of-segments_of (suc n) [] l h = absurd (omega arith)
octets_of-segments_of (suc n) (x ∷ []) l h = absurd (omega arith)
octets_of-segments_of (suc n) (x ∷ y ∷ b) l h =
    let low : y < 256 = h 1 in
    let ih : octets_of (segments_of b) ≡ b = octets_of-segments_of n b (omega arith) (λ i. h (suc (suc i))) in
    rw (div-mul-add x 256 y low, mod-mul-add x 256 y low, ih) refl

pub takes_ipv6 : (old new b s : List ℕ) → old ≡ b ++ new → length b ≡ 16 → AreBytes b → s ≡ segments_of b
    → Takes (IsOctets 16 (octets_of s)) old new
takes_ipv6 old new b s e l h v =
    record {
      front = b;
      split = e;
      is = record {
        bytes = h;
        width = l;
        value = sym (octets_of-segments_of 8 b l h) ∙ ap octets_of (sym v);
      };
    }
