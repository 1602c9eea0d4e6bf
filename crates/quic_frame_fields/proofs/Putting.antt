-- Bytes that are written one after the other at the front of a slice.
use Rattle.std.proofs.Common.{◌≡◌, ℕ, ◌+◌, ◌<◌, ◌≤◌, List, [], ◌∷◌, ◌++◌, length, take, drop, Ok, Err, refl, sym, ap, subst, ◌∙◌, append_assoc, arith}
use Rattle.std.proofs.lemmas.List.{length-append, length-take, append-nil, take-append-drop, drop-drop}
use Rattle.quic_base.specs.Number.{AreBytes}
use Rattle.quic_base.specs.Varint.{shortest_varint}
use Rattle.quic_frame_fields.specs.Numbers.{AreEncoded, shortest_varints}
use Rattle.quic_frame_fields.specs.Putting.{Stores, Puts, Shortens}
use Rattle.quic_frame_fields.specs.Reading.{varint_at}
use Rattle.quic_frame_fields.proofs.Encoded.{ReadSome, all_short-append, all_short-last, next_number}

further : (a b : ℕ) (l m : List ℕ) → drop a l ≡ drop a m → drop (a + b) l ≡ drop (a + b) m
further a b l m e = sym (drop-drop b a l) ∙ ap (drop b) e ∙ drop-drop b a m

puts : (bytes old new : List ℕ) (n : ℕ) → n ≡ length bytes → take n new ≡ bytes → drop n new ≡ drop n old
    → Puts (Ok n) bytes old new
puts bytes old new n count front back = record {
  count = count;
  front = sym (take-append-drop n new) ∙ ap (λ (l : List ℕ). l ++ drop n new) front ∙ ap (λ (l : List ℕ). bytes ++ l) back;
  needed = tt;
  full = tt;
  same = tt;
}

pub puts_two : (front end old one new : List ℕ) (at n : ℕ) → at ≡ 0 + length front → n ≡ at + length end
    → take at one ≡ take 0 old ++ front → take n new ≡ take at one ++ end
    → drop at one ≡ drop at old → drop n new ≡ drop n one → Puts (Ok n) (front ++ end) old new
puts_two front end old one new at n s t p q u v =
    let count : n ≡ length (front ++ end) = omega (arith, length-append front end) in
    let back : drop n one ≡ drop n old = rw t (further at (length end) one old u) in
    puts (front ++ end) old new n count (q ∙ ap (λ (l : List ℕ). l ++ end) p) (v ∙ back)

pub puts_three : (front middle end old one two new : List ℕ) (at place n : ℕ) → at ≡ 0 + length front
    → place ≡ at + length middle → n ≡ place + length end
    → take at one ≡ take 0 old ++ front → take place two ≡ take at one ++ middle → take n new ≡ take place two ++ end
    → drop at one ≡ drop at old → drop place two ≡ drop place one
    → drop n new ≡ drop n two → Puts (Ok n) (front ++ (middle ++ end)) old new
puts_three front middle end old one two new at place n r s t p q o u v w =
    let count : n ≡ length (front ++ (middle ++ end)) =
    omega (arith, length-append front (middle ++ end), length-append middle end) in
    let first : drop place one ≡ drop place old = rw s (further at (length middle) one old u) in
    let back : drop n two ≡ drop n old = rw t (further place (length end) two old (v ∙ first)) in
    let all : take n new ≡ (front ++ middle) ++ end =
    o ∙ ap (λ (l : List ℕ). l ++ end) (q ∙ ap (λ (l : List ℕ). l ++ middle) p) in
    puts (front ++ (middle ++ end)) old new n count (all ∙ append_assoc front middle end) (w ∙ back)

-- ---- numbers that are written one after the other

pub stores_none : (at : ℕ) (old : List ℕ) → Stores [] at old at old
stores_none at old = record { count = omega arith; front = sym (append-nil (take at old)); back = refl }

pub stores_more : (first second old one new : List ℕ) (at place end : ℕ) → Stores first at old place one
    → Stores second place one end new → Stores (first ++ second) at old end new
stores_more first second old one new at place end x y = record {
  count = let m = x.count in let n = y.count in omega (arith, m, n, length-append first second);
  front = y.front ∙ ap (λ (l : List ℕ). l ++ second) x.front ∙ append_assoc (take at old) first second;
  back = y.back ∙ rw y.count (further place (length second) one old x.back);
}

-- an array's first bytes, written
pub stores_of : (n : ℕ) (xs bytes old new : List ℕ) (at end : ℕ) → take n xs ≡ bytes → end ≡ at + length (take n xs)
    → take end new ≡ take at old ++ take n xs → drop end new ≡ drop end old → Stores bytes at old end new
stores_of n xs bytes old new at end is count front back = record {
  count = omega (arith, count, ap length is);
  front = front ∙ ap (λ (l : List ℕ). take at old ++ l) is;
  back = back;
}

-- how many these are
pub taken : (n room : ℕ) (xs bytes : List ℕ) → n ≤ room → length xs ≡ room → take n xs ≡ bytes → n ≡ length bytes
taken n room xs bytes le long is = omega (arith, le, long, ap length is, length-take n xs)

pub puts_stores : (bytes old new : List ℕ) (n : ℕ) → Stores bytes 0 old n new → Puts (Ok n) bytes old new
puts_stores bytes old new n x = puts bytes old new n (let m = x.count in omega (arith, m)) x.front x.back

pub puts_refused : (bytes old : List ℕ) (n : ℕ) → n ≡ length bytes → length old < n → Puts (Err n) bytes old old
puts_refused bytes old n count lt =
    record { count = tt; front = tt; needed = count; full = omega (arith, count, lt); same = refl }

-- They were written.
abbrev pub StoredThem : ℕ → List ℕ → ℕ → List ℕ → List ℕ → Type 0
StoredThem at old end new ns = Stores (shortest_varints ns) at old end new

pub stored_one : (n at place end : ℕ) (old one new : List ℕ) → Stores (shortest_varint n) place one end new
    → (ns : List ℕ) → StoredThem at old place one ns → StoredThem at old end new (ns ++ n ∷ [])
stored_one n at place end old one new x ns so_far =
    subst (λ (l : List ℕ). Stores l at old end new) (sym (all_short-last ns n))
    (stores_more (shortest_varints ns) (shortest_varint n) old one new at place end so_far x)

-- the next number has room
pub room_for_one : (encoded rest after old one : List ℕ) (n len at place : ℕ) → AreBytes rest
    → (s : Shortens encoded len)
    → ((ns : List ℕ) → AreEncoded ns encoded → ReadSome (StoredThem at old place one) rest ns)
    → varint_at rest ≡ Ok (n, after) → place + length (shortest_varint n) ≤ at + len
room_for_one encoded rest after old one n len at place fits s read e =
    let r = read s.numbers s.encodes in
    let next = next_number r.left rest n after fits r.numbers e in
    let parts : shortest_varints s.numbers ≡ shortest_varints r.before ++ (shortest_varint n ++ shortest_varints next.others) =
    ap shortest_varints (r.are ∙ ap (λ (l : List ℕ). r.before ++ l) next.are)
    ∙ all_short-append r.before (n ∷ next.others) in
    let long = s.long s.numbers s.encodes in
    let so_far = r.holds.count in
    omega (
      arith,
      long,
      so_far,
      ap length parts,
      length-append (shortest_varints r.before)
          (shortest_varint n ++ shortest_varints next.others),
      length-append (shortest_varint n) (shortest_varints next.others),
    )
