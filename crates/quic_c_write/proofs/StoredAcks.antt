-- ACKs that words describe by gap and length are written, gap after gap, and their type last.
use Rattle.std.proofs.Common.{append_assoc, ℤ, to_z, of_z, w32, ◌≡◌, ℕ, zero, suc, ◌+◌, ◌-◌, ◌<◌, ◌≤◌, ◌^◌, ◌⊎◌, inl, inr, List, [], ◌∷◌, ◌++◌, length, refl, sym, ap, subst, ◌∙◌, arith}
use Rattle.quic_results.specs.declared.results.Failure.TheVariants as failure
use Rattle.quic_results.specs.Results.{failed}
use Rattle.std.specs.Prelude.{pos, bit_or, drop, get_or, slice_index, take, ◌==◌, if◌then◌else◌}
use Rattle.std.proofs.lemmas.Bool.Decides.{nat_tests}
use Rattle.std.proofs.lemmas.Bool.{lt-ltb}
use Rattle.std.proofs.lemmas.List.{append-nil, at_drop_more, drop-drop, drop_all, length-append, take-append-drop, take_all, take_more}
use Rattle.std.proofs.lemmas.Nat.{le_or_l, le_or_r}
use Rattle.quic_base.specs.Varint.{shortest_varint, size}
use Rattle.quic_base.proofs.PublicLaws.{length-short}
use Rattle.quic_frame_fields.proofs.Putting.{stores_more}
use Rattle.quic_frame_fields.proofs.Encoded.{all_short-append}
use Rattle.quic_frame_fields.specs.Putting.{Stores}
use Rattle.quic_frame_fields.specs.Numbers.{AreNumeric, shortest_varints}
use Rattle.quic_c_words.specs.declared.words.CFrame.{CFrame}
use Rattle.quic_c_words.specs.declared.words.CGap.{CGap}
use Rattle.quic_c_write.specs.AckGaps.{ack_bytes, behind_type, counts_list, front_numbers, gap_numbers, Fit}

size_some : (n : ℕ) → 1 ≤ size n
unfolding size
size_some n = grind (arith, nat_tests)

short_one : (n : ℕ) → n < 64 → shortest_varint n ≡ n ∷ []
unfolding shortest_varint
short_one n lt = rw (lt-ltb n 64 lt) refl

-- two numbers of one byte each
pub both_small : (a b : ℕ) → bit_or a b < 64 → (a < 64) × (b < 64)
both_small a b lt = (omega (arith, lt, le_or_l a b), omega (arith, lt, le_or_r a b))

pub short_two : (a b : ℕ) → bit_or a b < 64 → shortest_varints (a ∷ b ∷ []) ≡ a ∷ b ∷ []
short_two a b lt =
    let both = both_small a b lt in
    rw (short_one a both.0, short_one b both.1) refl

pub few_two : (a b : ℕ) → 2 ≤ length (shortest_varints (a ∷ b ∷ []))
few_two a b =
    omega (
      arith,
      length-append (shortest_varint a) (shortest_varint b ++ []),
      length-append (shortest_varint b) [],
      length-short a,
      length-short b,
      size_some a,
      size_some b,
    )

pub stored_two : (a b : ℕ) (old one new : List ℕ) (at place end : ℕ) → Stores (shortest_varint a) at old place one
    → Stores (shortest_varint b) place one end new
    → Stores (shortest_varints (a ∷ b ∷ [])) at old end new
stored_two a b old one new at place end x y =
    subst (λ (l : List ℕ). Stores (shortest_varint a ++ l) at old end new) (sym (append-nil (shortest_varint b)))
    (stores_more (shortest_varint a) (shortest_varint b) old one new at place end x y)

pub stored_front : (g d n f : ℕ) (old one two new : List ℕ) (place stop end : ℕ)
    → Stores (shortest_varint g) 1 old place one → Stores (shortest_varint d) place one stop two
    → Stores (shortest_varints (n ∷ f ∷ [])) stop two end new
    → Stores (shortest_varints (g ∷ d ∷ n ∷ f ∷ [])) 1 old end new
stored_front g d n f old one two new place stop end x y z =
    stores_more (shortest_varint g) (shortest_varints (d ∷ n ∷ f ∷ [])) old one new 1 place end x
    (stores_more (shortest_varint d) (shortest_varints (n ∷ f ∷ [])) one two new place stop end y z)

pub stored_counts : (words : CFrame) (old one new : List ℕ) (at place end : ℕ) → words.flags ≡ 2
    → Stores (shortest_varint (slice_index words.numbers 2)) at old place one
    → Stores (shortest_varints (slice_index words.numbers 3 ∷ slice_index words.numbers 4 ∷ [])) place one end new
    → Stores (shortest_varints (counts_list words)) at old end new
stored_counts words old one new at place end two x y =
    let a : ℕ = slice_index words.numbers 2 in
    let b : ℕ = slice_index words.numbers 3 in
    let c : ℕ = slice_index words.numbers 4 in
    let joined : Stores (shortest_varints (a ∷ b ∷ c ∷ [])) at old end new =
    stores_more (shortest_varint a) (shortest_varints (b ∷ c ∷ [])) old one new at place end x y in
    subst (λ (f : ℕ). Stores (shortest_varints (if f == 2 then a ∷ b ∷ c ∷ [] else [])) at old end new) (sym two) joined

-- ---- the type is written last

-- the type's byte, by the flags
pub first_byte : (words : CFrame) (gaps : List CGap) → words.flags ≡ 2
    → shortest_varints (front_numbers words gaps) ≡ 0x03 ∷ shortest_varints (behind_type words gaps)
unfolding shortest_varint
first_byte words gaps two =
    subst (λ (f : ℕ). shortest_varints ((if f == 2 then 0x03 else 0x02) ∷ behind_type words gaps) ≡ 0x03
    ∷ shortest_varints (behind_type words gaps)) (sym two) refl

pub first_without : (words : CFrame) (gaps : List CGap) → words.flags ≡ 0
    → shortest_varints (front_numbers words gaps) ≡ 0x02 ∷ shortest_varints (behind_type words gaps)
unfolding shortest_varint
first_without words gaps none =
    subst (λ (f : ℕ). shortest_varints ((if f == 2 then 0x03 else 0x02) ∷ behind_type words gaps) ≡ 0x02
    ∷ shortest_varints (behind_type words gaps))
    (sym none) refl

pub no_counts : (words : CFrame) → words.flags ≡ 0 → counts_list words ≡ []
no_counts words none =
    subst (λ (f : ℕ). (if f == 2 then slice_index words.numbers 2 ∷ slice_index words.numbers 3
    ∷ slice_index words.numbers 4 ∷ [] else []) ≡ []) (sym none) refl

-- how much room each part has
pub record Room (words : CFrame) (gaps : List CGap) (room : ℕ) : Type 0 where
  pub all : 1 + length (shortest_varints (behind_type words gaps)) + length (shortest_varints (gap_numbers gaps))
      + length (shortest_varints (counts_list words)) ≤ room

pub room_of : (words : CFrame) (gaps : List CGap) (room : ℕ) → (words.flags ≡ 0) ⊎ (words.flags ≡ 2)
    → length (ack_bytes words gaps) ≤ room → Room words gaps room
room_of words gaps room flags le =
    let front : List ℕ = shortest_varints (front_numbers words gaps) in
    let middle : List ℕ = shortest_varints (gap_numbers gaps) in
    let end : List ℕ = shortest_varints (counts_list words) in
    let one : length front ≡ 1 + length (shortest_varints (behind_type words gaps)) = elim flags [
      | inl none ↦ omega (arith, ap length (first_without words gaps none))
      | inr some ↦ omega (arith, ap length (first_byte words gaps some))
    ] in
    record { all = omega (arith, le, one, length-append front (middle ++ end), length-append middle end) }

tail_of : (k : ℕ) (bytes old mid : List ℕ) → 1 ≤ length old → take (suc k) mid ≡ take 1 old ++ bytes
    → take k (drop 1 mid) ≡ bytes
tail_of k bytes [] mid le e = absurd (omega (arith, le))
tail_of k bytes (o ∷ old) [] le e = absurd (omega (arith, ap length e))
tail_of k bytes (o ∷ old) (m ∷ mid) le e = ap (λ (l : List ℕ). drop 1 l) e

typed : (t : ℕ) (bytes old mid new : List ℕ) (end first : ℕ) → 1 ≤ length old → Stores bytes 1 old end mid
    → first ≡ 0 + 1 → take first new ≡ take 0 mid ++ (t ∷ [])
    → drop first new ≡ drop first mid → Stores (t ∷ bytes) 0 old end new
typed t bytes old mid new end first le x one front back =
    let k : ℕ = length bytes in
    let count = x.count in
    let next : end ≡ suc k = omega (arith, count) in
    let is : new ≡ t ∷ drop 1 mid =
    sym (take-append-drop first new) ∙ ap (λ (l : List ℕ). l ++ drop first new) front ∙ ap (λ (l : List ℕ). t ∷ l) back
    ∙ ap (λ (n : ℕ). t ∷ drop n mid) one in
    let rest : take k (drop 1 mid) ≡ bytes =
    tail_of k bytes old mid le (subst (λ (n : ℕ). take n mid ≡ take 1 old ++ bytes) next x.front) in
    record {
      count = omega (arith, count);
      front = ap (λ (l : List ℕ). take end l) is ∙ ap (λ (n : ℕ). take n (t ∷ drop 1 mid)) next ∙ ap (λ (l : List ℕ). t ∷ l) rest;
      back = ap (λ (l : List ℕ). drop end l) is ∙ ap (λ (n : ℕ). drop n (t ∷ drop 1 mid)) next ∙ drop-drop k 1 mid
          ∙ ap (λ (n : ℕ). drop n mid) (sym count) ∙ x.back;
    }

-- the numbers after the type, the gaps, the type and the counts were written, one after the other
pub stored_ack : (t : ℕ) (behind middle end old front mid one new : List ℕ) (place at stop first : ℕ) → 1 ≤ length old
    → Stores behind 1 old place front → Stores middle place front at mid
    → first ≡ 0 + 1 → take first one ≡ take 0 mid ++ (t ∷ []) → drop first one ≡ drop first mid
    → Stores end at one stop new
    → Stores ((t ∷ behind) ++ (middle ++ end)) 0 old stop new
stored_ack t behind middle end old front mid one new place at stop first le x y a b c z =
    let so_far : Stores (behind ++ middle) 1 old at mid = stores_more behind middle old front mid 1 place at x y in
    let with_type : Stores (t ∷ (behind ++ middle)) 0 old at one =
    typed t (behind ++ middle) old mid one at first le so_far a b c in
    let all = stores_more (t ∷ (behind ++ middle)) end old one new 0 at stop with_type z in
    subst (λ (l : List ℕ). Stores (t ∷ l) 0 old stop new) (append_assoc behind middle end) all

-- ---- gap after gap

abbrev pub none : CGap
none = record { gap = 0; len = 0 }

-- what is left fits exactly if all do
pub record FitsOn (first : ℕ) (gaps : List CGap) (i low : ℕ) : Type 0 where
  pub on : Fit low (drop i gaps) → Fit first gaps
  pub back : Fit first gaps → Fit low (drop i gaps)

cons_of : (gaps : List CGap) (i : ℕ) → i < length gaps → drop i gaps ≡ get_or gaps i none ∷ drop (i + 1) gaps
cons_of gaps i lt = at_drop_more (λ (x : List CGap). x) gaps i none lt

pub fits_more : (first low : ℕ) (gaps : List CGap) (i : ℕ) → i < length gaps
    → (get_or gaps i none).gap + 2 + (get_or gaps i none).len ≤ low → FitsOn first gaps i low
    → FitsOn first gaps (i + 1) (low - 2 - (get_or gaps i none).gap - (get_or gaps i none).len)
fits_more first low gaps i lt h inv = record {
  on = λ f. inv.on (subst (λ (x : List CGap). Fit low x) (sym (cons_of gaps i lt)) (h, f));
  back = λ f. (subst (λ (x : List CGap). Fit low x) (cons_of gaps i lt) (inv.back f)).1;
}

pub fits_here : (first low : ℕ) (gaps : List CGap) (i : ℕ) → i < length gaps → FitsOn first gaps i low → Fit first gaps
    → (get_or gaps i none).gap + 2 + (get_or gaps i none).len ≤ low
fits_here first low gaps i lt inv f = (subst (λ (x : List CGap). Fit low x) (cons_of gaps i lt) (inv.back f)).0

pub fits_all : (first low : ℕ) (gaps : List CGap) (i : ℕ) → length gaps ≤ i → FitsOn first gaps i low → Fit first gaps
fits_all first low gaps i le inv = inv.on (subst (λ (x : List CGap). Fit low x) (sym (drop_all i gaps le)) tt)

numbers_append : (a b : List CGap) → gap_numbers (a ++ b) ≡ gap_numbers a ++ gap_numbers b
numbers_append [] b = refl
numbers_append (g ∷ a) b = ap (λ (l : List ℕ). g.gap ∷ g.len ∷ l) (numbers_append a b)

pub gap_more : (gaps : List CGap) (i : ℕ) → i < length gaps
    → shortest_varints (gap_numbers (take (i + 1) gaps)) ≡ shortest_varints (gap_numbers (take i gaps))
    ++ shortest_varints ((get_or gaps i none).gap ∷ (get_or gaps i none).len ∷ [])
gap_more gaps i lt =
    let g : CGap = get_or gaps i none in
    ap (λ (x : List CGap). shortest_varints (gap_numbers x)) (take_more gaps i none lt)
    ∙ ap shortest_varints (numbers_append (take i gaps) (g ∷ []))
    ∙ all_short-append (gap_numbers (take i gaps)) (g.gap ∷ g.len ∷ [])

-- so many bytes were counted, and no more than the numbers that were passed
pub record CountedOn (low : ℕ) (gaps : List CGap) (i len : ℕ) : Type 0 where
  pub rest : ℕ
  pub fit : Fit rest (drop i gaps)
  pub counted : len ≡ length (shortest_varints (gap_numbers (take i gaps)))
  pub small : len + rest ≤ low

size_least : (n : ℕ) → size n ≤ n + 1
unfolding size
size_least n = grind (arith, nat_tests)

two_long : (a b : ℕ) → length (shortest_varints (a ∷ b ∷ [])) ≡ size a + size b
two_long a b =
    omega (
      arith,
      length-append (shortest_varint a) (shortest_varint b ++ []),
      length-append (shortest_varint b) [],
      length-short a,
      length-short b,
    )

pub counted_more : (low : ℕ) (gaps : List CGap) (i len : ℕ) → i < length gaps → CountedOn low gaps i len
    → CountedOn low gaps (i + 1) (len + (size (get_or gaps i none).gap + size (get_or gaps i none).len))
counted_more low gaps i len lt inv =
    let g : CGap = get_or gaps i none in
    let now = subst (λ (x : List CGap). Fit inv.rest x) (cons_of gaps i lt) inv.fit in
    let h = now.0 in
    let small = inv.small in
    let counted = inv.counted in
    record {
      rest = inv.rest - 2 - g.gap - g.len;
      fit = now.1;
      counted = omega (
        arith,
        counted,
        ap length (gap_more gaps i lt),
        length-append (shortest_varints (gap_numbers (take i gaps))) (shortest_varints (g.gap ∷ g.len ∷ [])),
        two_long g.gap g.len,
      );
      small = omega (arith, h, small, size_least g.gap, size_least g.len);
    }

pub counted_all : (low : ℕ) (gaps : List CGap) (i len : ℕ) → length gaps ≤ i → CountedOn low gaps i len
    → len ≡ length (shortest_varints (gap_numbers gaps))
counted_all low gaps i len le inv =
    inv.counted ∙ ap (λ (x : List CGap). length (shortest_varints (gap_numbers x))) (take_all i gaps le)

-- so many gaps were written
pub record StoredOn (gaps : List CGap) (at : ℕ) (old : List ℕ) (i end : ℕ) (new : List ℕ) : Type 0 where
  pub stored : Stores (shortest_varints (gap_numbers (take i gaps))) at old end new
  pub len : length new ≡ length old

pub stored_more : (gaps : List CGap) (at i end stop : ℕ) (old one new : List ℕ) → i < length gaps
    → StoredOn gaps at old i end one
    → Stores (shortest_varints ((get_or gaps i none).gap ∷ (get_or gaps i none).len ∷ [])) end one stop new
    → length new ≡ length one → StoredOn gaps at old (i + 1) stop new
stored_more gaps at i end stop old one new lt inv y same = record {
  stored = subst (λ (l : List ℕ). Stores l at old stop new) (sym (gap_more gaps i lt))
      (stores_more (shortest_varints (gap_numbers (take i gaps)))
      (shortest_varints ((get_or gaps i none).gap ∷ (get_or gaps i none).len ∷ [])) old one new at end stop
      inv.stored y);
  len = same ∙ inv.len;
}

pub stored_all : (gaps : List CGap) (at i end : ℕ) (old new : List ℕ) → length gaps ≤ i → StoredOn gaps at old i end new
    → Stores (shortest_varints (gap_numbers gaps)) at old end new
stored_all gaps at i end old new le inv =
    subst (λ (x : List CGap). Stores (shortest_varints (gap_numbers x)) at old end new) (take_all i gaps le) inv.stored

pub numeric_at : (gaps : List CGap) (i : ℕ) → i < length gaps → AreNumeric (gap_numbers gaps)
    → ((get_or gaps i none).gap < 2 ^ 62) × ((get_or gaps i none).len < 2 ^ 62)
numeric_at [] i lt n = absurd (omega (arith, lt))
numeric_at (g ∷ gaps) zero lt n = (n.0, n.1.0)
numeric_at (g ∷ gaps) (suc i) lt n = numeric_at gaps i (omega (arith, lt)) n.1.1

-- the next two numbers have room
pub room_at : (gaps : List CGap) (at i end : ℕ) (old one : List ℕ) → i < length gaps
    → at + length (shortest_varints (gap_numbers gaps)) ≤ length old → StoredOn gaps at old i end one
    → end + length (shortest_varints ((get_or gaps i none).gap ∷ (get_or gaps i none).len ∷ [])) ≤ length one
room_at gaps at i end old one lt room inv =
    let g : CGap = get_or gaps i none in
    let front : List CGap = take (i + 1) gaps in
    let back : List CGap = drop (i + 1) gaps in
    let parts : gap_numbers gaps ≡ gap_numbers front ++ gap_numbers back =
    ap gap_numbers (sym (take-append-drop (i + 1) gaps)) ∙ numbers_append front back in
    let so_far = inv.stored.count in
    let same = inv.len in
    omega (
      arith,
      room,
      so_far,
      same,
      ap (λ (l : List ℕ). length (shortest_varints l)) parts,
      ap length (all_short-append (gap_numbers front) (gap_numbers back)),
      length-append (shortest_varints (gap_numbers front)) (shortest_varints (gap_numbers back)),
      ap length (gap_more gaps i lt),
      length-append (shortest_varints (gap_numbers (take i gaps))) (shortest_varints (g.gap ∷ g.len ∷ [])),
    )

-- a result as the word that it is returned by
pub same_answer : (result : ℤ) → (result ≡ pos 0) ⊎ ((result ≡ failed failure.NoRoom) ⊎ (result ≡ failed failure.Argument))
    → to_z w32 (of_z w32 result) ≡ result
same_answer result cases = elim cases [
  | inl done ↦ subst (λ (z : ℤ). to_z w32 (of_z w32 z) ≡ z) (sym done) refl
  | inr other ↦ elim other [
    | inl less ↦ subst (λ (z : ℤ). to_z w32 (of_z w32 z) ≡ z) (sym less) refl
    | inr wrong ↦ subst (λ (z : ℤ). to_z w32 (of_z w32 z) ≡ z) (sym wrong) refl
  ]
]
