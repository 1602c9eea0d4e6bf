-- ACKs that words describe by gap and length: there is one at most, and these are its bytes.
use Rattle.std.proofs.Common.{◌≡◌, ℕ, ◌+◌, ◌-◌, ◌*◌, ◌<◌, ◌≤◌, ◌^◌, Bool, true, false, ◌⊎◌, inl, inr, List, [], ◌∷◌, ◌++◌, length, refl, sym, ap, subst, ◌∙◌, arith}
use Rattle.std.specs.Prelude.{◌↔◌, IsTrue, bit_or, nat_lt, slice_index, ◌==◌, if◌then◌else◌}
use Rattle.std.proofs.lemmas.Bool.Decides.{nat_tests}
use Rattle.std.proofs.lemmas.Bool.{lt-ltb, ltb-true}
use Rattle.std.proofs.lemmas.List.{length-append}
use Rattle.std.proofs.lemmas.Nat.{le_or_l, le_or_r, or_lt}
use Rattle.quic_base.specs.Varint.{shortest_varint, size}
use Rattle.quic_base.proofs.PublicLaws.{length-short}
use Rattle.quic_frame_fields.proofs.AckParts.{ack_parts}
use Rattle.quic_frame_fields.specs.Numbers.{AreNumeric, shortest_varints}
use Rattle.quic_frame_fields.specs.Sets.{ack_type, count_numbers}
use Rattle.quic_frame_fields.specs.Shortest.{shortest_below, shortest_frame}
use Rattle.quic_c_words.specs.declared.words.CFrame.{CFrame}
use Rattle.quic_c_words.specs.declared.words.CGap.{CGap}
use Rattle.quic_c_write.specs.AckGaps.{ack_bytes, ack_described, counts_list, counts_described, delay_in, front_numbers, gap_numbers, greatest_of_words, AreUnder, Fit, IsAck, DescribesAck}
use Rattle.quic_c_words.specs.Gaps.{gap_of, gaps_below}

-- ---- the ranges that gaps describe

ranges_of : ℕ → List CGap → List (ℕ × ℕ)
ranges_of low [] = []
ranges_of low (g ∷ gaps) = (low - 2 - g.gap - g.len, low - 2 - g.gap) ∷ ranges_of (low - 2 - g.gap - g.len) gaps

under_of : (low : ℕ) (gaps : List CGap) → Fit low gaps → AreUnder low (ranges_of low gaps)
unfolding ranges_of
under_of low [] f = tt
under_of low (g ∷ gaps) f =
    let h = f.0 in (omega (arith, h), omega (arith, h), under_of (low - 2 - g.gap - g.len) gaps f.1)

made : (a b x y : ℕ) → a ≡ x → b ≡ y → ◌≡◌ {A = CGap} (record { gap = a; len = b }) (record { gap = x; len = y })
made a b x y e f = cc

gaps_of : (low : ℕ) (gaps : List CGap) → Fit low gaps → gaps ≡ gaps_below low (ranges_of low gaps)
unfolding ranges_of
gaps_of low [] f = refl
gaps_of low (g ∷ gaps) f =
    let h = f.0 in
    let top : ℕ = low - 2 - g.gap in
    let least : ℕ = top - g.len in
    let same : g ≡ gap_of low (least, top) =
    made g.gap g.len (low - (top + 2)) (top - least) (omega (arith, h)) (omega (arith, h)) in
    ap (λ (x : CGap). x ∷ gaps) same ∙ ap (λ (l : List CGap). gap_of low (least, top) ∷ l) (gaps_of least gaps f.1)

fit_below : (low : ℕ) (below : List (ℕ × ℕ)) → AreUnder low below → Fit low (gaps_below low below)
fit_below low [] u = tt
fit_below low (r ∷ ranges) u =
    let a = u.0 in
    let b = u.1 in
    let next : r.0 ≡ low - 2 - (low - (r.1 + 2)) - (r.1 - r.0) = omega (arith, a, b) in
    (omega (arith, a, b), subst (λ (l : ℕ). Fit l (gaps_below r.0 ranges)) next (fit_below r.0 ranges u.2))

-- ---- their bytes

bytes_below : (low : ℕ) (below : List (ℕ × ℕ))
    → shortest_below low below ≡ shortest_varints (gap_numbers (gaps_below low below))
bytes_below low [] = refl
bytes_below low (r ∷ ranges) =
    ap (λ (l : List ℕ). shortest_varint (low - (r.1 + 2)) ++ (shortest_varint (r.1 - r.0) ++ l)) (bytes_below r.0 ranges)

many_below : (low : ℕ) (below : List (ℕ × ℕ)) → length below ≡ length (gaps_below low below)
many_below low [] = refl
many_below low (r ∷ ranges) = omega (arith, many_below r.0 ranges)

type_by : (flags a b c : ℕ) → (flags ≡ 0) ⊎ (flags ≡ 2)
    → ack_type (counts_described (if flags == 2 then a ∷ b ∷ c ∷ [] else [])) ≡ (if flags == 2 then 0x03 else 0x02)
type_by flags a b c e = elim e [
  | inl none ↦ subst (λ (f : ℕ). ack_type (counts_described (if f == 2 then a ∷ b ∷ c ∷ [] else []))
      ≡ (if f == 2 then 0x03 else 0x02)) (sym none) refl
  | inr some ↦ subst (λ (f : ℕ). ack_type (counts_described (if f == 2 then a ∷ b ∷ c ∷ [] else []))
      ≡ (if f == 2 then 0x03 else 0x02)) (sym some) refl
]

counts_by : (flags a b c : ℕ) → (flags ≡ 0) ⊎ (flags ≡ 2)
    → count_numbers (counts_described (if flags == 2 then a ∷ b ∷ c ∷ [] else [])) ≡ (if flags == 2 then a ∷ b ∷ c ∷ [] else [])
counts_by flags a b c e = elim e [
  | inl none ↦ subst (λ (f : ℕ). count_numbers (counts_described (if f == 2 then a ∷ b ∷ c ∷ [] else []))
      ≡ (if f == 2 then a ∷ b ∷ c ∷ [] else [])) (sym none) refl
  | inr some ↦ subst (λ (f : ℕ). count_numbers (counts_described (if f == 2 then a ∷ b ∷ c ∷ [] else []))
      ≡ (if f == 2 then a ∷ b ∷ c ∷ [] else [])) (sym some) refl
]

-- the bytes of the ACK that words and gaps describe
pub whole : (last : Bool) (words : CFrame) (gaps : List CGap) (low : ℕ) (below : List (ℕ × ℕ))
    → DescribesAck words gaps low below
    → shortest_frame last (ack_described words low below) ≡ ack_bytes words gaps
whole last words gaps low below s =
    let g : ℕ = greatest_of_words words in
    let d : ℕ = delay_in words in
    let counts : List ℕ = counts_list words in
    let parts = ack_parts last g d (low, g) below (counts_described counts) in
    let type : ack_type (counts_described counts) ≡ (if words.flags == 2 then 0x03 else 0x02) =
    type_by words.flags (slice_index words.numbers 2) (slice_index words.numbers 3) (slice_index words.numbers 4) s.flags in
    let numbers : count_numbers (counts_described counts) ≡ counts =
    counts_by words.flags (slice_index words.numbers 2) (slice_index words.numbers 3) (slice_index words.numbers 4) s.flags in
    let count : length below ≡ length gaps = many_below low below ∙ ap length (sym s.gaps_are) in
    let first : g - low ≡ words.data_len = (let e = s.first in omega (arith, e)) in
    let bytes : shortest_below low below ≡ shortest_varints (gap_numbers gaps) =
    bytes_below low below ∙ ap (λ (x : List CGap). shortest_varints (gap_numbers x)) (sym s.gaps_are) in
    parts
    ∙ ap (λ (t : ℕ). shortest_varints (t ∷ g ∷ d ∷ length below ∷ (g - low) ∷ [])
    ++ (shortest_below low below ++ shortest_varints (count_numbers (counts_described counts)))) type
    ∙ ap (λ (n : ℕ). shortest_varints ((if words.flags == 2 then 0x03 else 0x02) ∷ g ∷ d ∷ n ∷ (g - low) ∷ [])
    ++ (shortest_below low below ++ shortest_varints (count_numbers (counts_described counts)))) count
    ∙ ap (λ (n : ℕ). shortest_varints ((if words.flags == 2 then 0x03 else 0x02) ∷ g ∷ d ∷ length gaps ∷ n ∷ [])
    ++ (shortest_below low below ++ shortest_varints (count_numbers (counts_described counts)))) first
    ∙ ap (λ (l : List ℕ). shortest_varints (front_numbers words gaps)
    ++ (l ++ shortest_varints (count_numbers (counts_described counts)))) bytes
    ∙ ap (λ (l : List ℕ). shortest_varints (front_numbers words gaps)
    ++ (shortest_varints (gap_numbers gaps) ++ shortest_varints l)) numbers

pub is_of : (words : CFrame) (gaps : List CGap) (low : ℕ) (below : List (ℕ × ℕ)) → DescribesAck words gaps low below
    → IsAck words gaps
is_of words gaps low below s =
    let e = s.first in
    let down : low ≡ greatest_of_words words - words.data_len = omega (arith, e) in
    record {
      kind = s.kind;
      flags = s.flags;
      first = omega (arith, e);
      fit = subst (λ (l : ℕ). Fit l gaps) down (subst (λ (x : List CGap). Fit low x) (sym s.gaps_are) (fit_below low below s.under));
      greatest = s.greatest;
      delay = s.delay;
      counts = s.counts;
    }

pub ack_of_words : (words : CFrame) (gaps : List CGap) → IsAck words gaps
    → (low : ℕ) × (below : List (ℕ × ℕ)) × DescribesAck words gaps low below
ack_of_words words gaps i =
    let low : ℕ = greatest_of_words words - words.data_len in
    let f = i.first in (
      low,
      ranges_of low gaps,
      record {
        kind = i.kind;
        flags = i.flags;
        first = omega (arith, f);
        under = under_of low gaps i.fit;
        gaps_are = gaps_of low gaps i.fit;
        greatest = i.greatest;
        delay = i.delay;
        counts = i.counts;
      },
    )

-- ---- numbers by their bits

both_below : (a b : ℕ) → bit_or a b < 2 ^ 62 → (a < 2 ^ 62) × (b < 2 ^ 62)
both_below a b lt = (omega (arith, lt, le_or_l a b), omega (arith, lt, le_or_r a b))

three_below : (a b c : ℕ) → (bit_or (bit_or a b) c < 2 ^ 62) ↔ AreNumeric (a ∷ b ∷ c ∷ [])
three_below a b c = (
  λ lt.
      let two = both_below (bit_or a b) c lt in
      let one = both_below a b two.0 in
      (one.0, (one.1, (two.1, tt))),
  λ n. or_lt 62 (bit_or a b) c (or_lt 62 a b n.0 n.1.0) n.1.1.0,
)

pub counts_below : (words : CFrame) → words.flags ≡ 2
    → (bit_or (bit_or (slice_index words.numbers 2) (slice_index words.numbers 3)) (slice_index words.numbers 4)
    < 2 ^ 62) ↔ AreNumeric (counts_list words)
counts_below words two =
    let a : ℕ = slice_index words.numbers 2 in
    let b : ℕ = slice_index words.numbers 3 in
    let c : ℕ = slice_index words.numbers 4 in
    subst (λ (f : ℕ). (bit_or (bit_or a b) c < 2 ^ 62) ↔ AreNumeric (if f == 2 then a ∷ b ∷ c ∷ [] else [])) (sym two) (three_below a b c)

pub numeric_by : (words : CFrame) (bits : ℕ) → (words.flags ≡ 0) ⊎ (words.flags ≡ 2)
    → (bits < 2 ^ 62) ↔ AreNumeric (counts_list words)
    → IsTrue (nat_lt (bit_or (bit_or (greatest_of_words words) (delay_in words)) bits) (2 ^ 62))
    ↔ (((words.flags ≡ 0) ⊎ (words.flags ≡ 2)) × AreNumeric (greatest_of_words words ∷ delay_in words ∷ counts_list words))
numeric_by words bits flags counts =
    let g : ℕ = greatest_of_words words in
    let d : ℕ = delay_in words in (
      λ e.
          let all = both_below (bit_or g d) bits (ltb-true (bit_or (bit_or g d) bits) (2 ^ 62) e) in
          let front = both_below g d all.0 in
          (flags, (front.0, (front.1, counts.0 all.1))),
      λ n. lt-ltb (bit_or (bit_or g d) bits) (2 ^ 62) (or_lt 62 (bit_or g d) bits (or_lt 62 g d n.1.0 n.1.1.0) (counts.1 n.1.1.1)),
    )

-- ---- how many bytes these are

pub few : (low : ℕ) (gaps : List CGap) → Fit low gaps → 2 * length gaps ≤ low
few low [] f = omega arith
few low (g ∷ gaps) f = let h = f.0 in let less = few (low - 2 - g.gap - g.len) gaps f.1 in omega (arith, h, less)

pub numeric : (low : ℕ) (gaps : List CGap) → low < 2 ^ 62 → Fit low gaps → AreNumeric (gap_numbers gaps)
numeric low [] lt f = tt
numeric low (g ∷ gaps) lt f =
    let h = f.0 in (omega (arith, h, lt), (omega (arith, h, lt), numeric (low - 2 - g.gap - g.len) gaps (omega (arith, lt)) f.1))

size_few : (n : ℕ) → size n ≤ 8
unfolding size
size_few n = grind (arith, nat_tests)

all_few : (ns : List ℕ) → length (shortest_varints ns) ≤ 8 * length ns
all_few [] = omega arith
all_few (n ∷ ns) =
    omega (arith, length-append (shortest_varint n) (shortest_varints ns), length-short n, size_few n, all_few ns)

two_each : (gaps : List CGap) → length (gap_numbers gaps) ≡ 2 * length gaps
two_each [] = refl
two_each (g ∷ gaps) = omega (arith, two_each gaps)

three_at_most : (some : Bool) (a b c : ℕ) → length (if some then a ∷ b ∷ c ∷ [] else []) ≤ 3
three_at_most true a b c = omega arith
three_at_most false a b c = omega arith

few_counts : (words : CFrame) → length (counts_list words) ≤ 3
few_counts words =
    three_at_most (words.flags == 2) (slice_index words.numbers 2) (slice_index words.numbers 3) (slice_index words.numbers 4)

pub longest : (words : CFrame) (gaps : List CGap) → length (ack_bytes words gaps) ≤ 64 + 16 * length gaps
longest words gaps =
    let front : List ℕ = shortest_varints (front_numbers words gaps) in
    let middle : List ℕ = shortest_varints (gap_numbers gaps) in
    let end : List ℕ = shortest_varints (counts_list words) in
    omega (
      arith,
      length-append front (middle ++ end),
      length-append middle end,
      all_few (front_numbers words gaps),
      all_few (gap_numbers gaps),
      all_few (counts_list words),
      two_each gaps,
      few_counts words,
    )
