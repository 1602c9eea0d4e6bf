-- An ACK that is held, whose numbers are encoded in any widths.
use Rattle.std.proofs.Common.{◌≡◌, ℕ, zero, suc, ◌+◌, ◌-◌, ◌*◌, ◌/◌, ◌≤◌, Bool, List, [], ◌∷◌, ◌++◌, length, take, drop, refl, sym, ap, subst, ◌∙◌, append_assoc, arith}
use Rattle.std.specs.Prelude.{Option}
use Rattle.std.proofs.lemmas.List.{length-append, append-nil, take-append-drop, take_rest, drop_at, length-take}
use Rattle.quic_base.specs.Number.{AreBytes}
use Rattle.quic_base.specs.Varint.{shortest_varint}
use Rattle.quic_frame_fields.specs.declared.frame.ack.Ack.{Ack}
use Rattle.quic_frame_fields.specs.declared.frame.ack.EcnCounts.{EcnCounts}
use Rattle.quic_frame_fields.specs.Acks.{ranges_acked}
use Rattle.quic_frame_fields.specs.Field.{AreBelow, AreBlocks}
use Rattle.quic_frame_fields.specs.Parts.{ack_meaning}
use Rattle.quic_frame_fields.specs.Sets.{IsAckInRange, ack_type, count_numbers, header_numbers}
use Rattle.quic_frame_fields.specs.Shortest.{shortest_below, shortest_frame}
use Rattle.quic_frame_fields.specs.Numbers.{AreNumeric, AreEncoded, shortest_varints}
use Rattle.quic_frame_fields.proofs.AckParts.{ack_parts, small_type}
use Rattle.quic_frame_fields.proofs.Apart.{blocks_apart}
use Rattle.quic_frame_fields.proofs.Blocks.{blocks_of}
use Rattle.quic_frame_fields.proofs.Encoded.{all_short-append}
use Rattle.quic_frame_fields.proofs.Sets.{few_below}

-- the numbers that encode ranges: for each its block, and for each except the first its gap
abbrev below_numbers : ℕ → List (ℕ × ℕ) → List ℕ
below_numbers low [] = []
below_numbers low (range ∷ ranges) = (low - (range.1 + 2)) ∷ (range.1 - range.0) ∷ below_numbers range.0 ranges

abbrev block_numbers : ℕ × ℕ → List (ℕ × ℕ) → List ℕ
block_numbers range ranges = (range.1 - range.0) ∷ below_numbers range.0 ranges

below_encoded : (low : ℕ) (ranges : List (ℕ × ℕ)) (bytes : List ℕ) → AreBelow low ranges bytes
    → AreEncoded (below_numbers low ranges) bytes
below_encoded low [] bytes s = s
below_encoded low (range ∷ ranges) bytes s =
    (s.0, s.1 ++ s.2, s.3, s.6, (s.1, s.2, refl, s.7, below_encoded range.0 ranges s.2 s.8))

blocks_encoded : (greatest : ℕ) (range : ℕ × ℕ) (ranges : List (ℕ × ℕ)) (bytes : List ℕ)
    → AreBlocks greatest (range ∷ ranges) bytes → AreEncoded (block_numbers range ranges) bytes
blocks_encoded greatest range ranges bytes s = (s.0, s.1, s.2, s.5, below_encoded range.0 ranges s.1 s.6)

below_count : (low : ℕ) (ranges : List (ℕ × ℕ)) → length (below_numbers low ranges) ≡ 2 * length ranges
below_count low [] = refl
below_count low (range ∷ ranges) = omega (arith, below_count range.0 ranges)

below_short : (low : ℕ) (ranges : List (ℕ × ℕ))
    → shortest_varints (below_numbers low ranges) ≡ shortest_below low ranges
below_short low [] = refl
below_short low (range ∷ ranges) =
    ap (λ (l : List ℕ). shortest_varint (low - (range.1 + 2)) ++ (shortest_varint (range.1 - range.0) ++ l)) (below_short range.0 ranges)

-- a number in front of the second part
moved : (ns : List ℕ) (n : ℕ) (below rest : List ℕ)
    → shortest_varints (ns ++ n ∷ []) ++ (below ++ rest) ≡ shortest_varints ns ++ ((shortest_varint n ++ below) ++ rest)
moved [] n below rest = simp (append_assoc, append-nil)
moved (m ∷ ns) n below rest =
    append_assoc (shortest_varint m) (shortest_varints (ns ++ n ∷ [])) (below ++ rest)
    ∙ ap (λ (l : List ℕ). shortest_varint m ++ l) (moved ns n below rest)
    ∙ sym (append_assoc (shortest_varint m) (shortest_varints ns) ((shortest_varint n ++ below) ++ rest))

pub record HeldParts (a : Ack) : Type 0 where
  pub numbers : List ℕ
  pub encoded : AreEncoded numbers a.additional.now
  pub many : length numbers / 2 ≡ length (ranges_acked a) - 1
  pub numeric : AreNumeric (header_numbers a)
  pub parts : (last : Bool) → shortest_frame last (ack_meaning a) ≡ shortest_varints (header_numbers a)
      ++ (shortest_varints numbers ++ shortest_varints (count_numbers a.ecn))

pub held_parts : (a : Ack) → AreBytes a.additional.now → IsAckInRange a → HeldParts a
held_parts a fits q =
    let b = blocks_of a.largest a.additional.now fits a.valid in
    let few = few_below b.range b.ranges (blocks_apart a.largest (b.range ∷ b.ranges) a.additional.now b.blocks) in
    let ends : b.range.1 ≡ a.largest = b.blocks.3 in
    let ordered : b.range.0 ≤ b.range.1 = b.blocks.4 in
    let count : length (ranges_acked a) - 1 ≡ length b.ranges = omega (arith, ap length b.are) in
    let others : length (b.range ∷ b.ranges) - 1 ≡ length b.ranges = omega arith in
    let numbers = block_numbers b.range b.ranges in
    record {
      numbers = numbers;
      encoded = blocks_encoded a.largest b.range b.ranges a.additional.now b.blocks;
      many = omega (arith, count, below_count b.range.0 b.ranges);
      numeric = (small_type a.ecn, (q.0.0, (q.0.1.0, (omega (arith, count, few, ends, ordered, q.0.0), tt))));
      parts = λ last.
          rw (b.are, others, below_short b.range.0 b.ranges) (ack_parts last a.largest a.delay b.range b.ranges a.ecn
          ∙ moved (ack_type a.ecn ∷ a.largest ∷ a.delay ∷ length b.ranges ∷ []) (b.range.1 - b.range.0)
          (shortest_below b.range.0 b.ranges) (shortest_varints (count_numbers a.ecn)));
    }

-- how many ranges are below the first, by how many numbers were counted
pub held_many : (a : Ack) (h : HeldParts a) (encoded : List ℕ) (count : ℕ) → encoded ≡ a.additional.now
    → ((ns : List ℕ) → AreEncoded ns encoded → count ≡ length ns) → count / 2 ≡ length (ranges_acked a) - 1
held_many a h encoded count is counted =
    ap (λ (n : ℕ). n / 2) (counted h.numbers (subst (AreEncoded h.numbers) (sym is) h.encoded)) ∙ h.many

-- the same of a header and counts that were computed
pub held_whole : (a : Ack) (h : HeldParts a) (last : Bool) (header : List ℕ) (counts : Option EcnCounts)
    → header ≡ header_numbers a → counts ≡ a.ecn
    → shortest_frame last (ack_meaning a) ≡ shortest_varints header
    ++ (shortest_varints h.numbers ++ shortest_varints (count_numbers counts))
held_whole a h last header counts header_is counts_are =
    h.parts last
    ∙ ap (λ (l : List ℕ). shortest_varints l ++ (shortest_varints h.numbers ++ shortest_varints (count_numbers a.ecn))) (sym header_is)
    ∙ ap (λ (k : Option EcnCounts). shortest_varints header ++ (shortest_varints h.numbers
    ++ shortest_varints (count_numbers k))) (sym counts_are)

pub held_length : (a : Ack) (h : HeldParts a) (last : Bool) (header : List ℕ) (counts : Option EcnCounts) (first second third : ℕ)
    → header ≡ header_numbers a → counts ≡ a.ecn → first ≡ length (shortest_varints header)
    → second ≡ length (shortest_varints h.numbers) → third ≡ length (shortest_varints (count_numbers counts))
    → first + second + third ≡ length (shortest_frame last (ack_meaning a))
held_length a h last header counts first second third header_is counts_are one two three =
    let whole = ap length (held_whole a h last header counts header_is counts_are) in
    let front =
    length-append (shortest_varints header) (shortest_varints h.numbers ++ shortest_varints (count_numbers counts)) in
    let back = length-append (shortest_varints h.numbers) (shortest_varints (count_numbers counts)) in
    omega (arith, whole, front, back, one, two, three)

-- the same behind the first numbers of the header
pub held_behind : (a : Ack) (h : HeldParts a) (last : Bool) (first : ℕ) (header : List ℕ) (counts : Option EcnCounts)
    → header ≡ drop first (header_numbers a) → counts ≡ a.ecn
    → drop (length (shortest_varints (take first (header_numbers a)))) (shortest_frame last (ack_meaning a))
    ≡ shortest_varints header ++ (shortest_varints h.numbers ++ shortest_varints (count_numbers counts))
held_behind a h last first header counts header_is counts_are =
    let all = header_numbers a in
    let front = shortest_varints (take first all) in
    let back = shortest_varints h.numbers ++ shortest_varints (count_numbers counts) in
    let whole : shortest_frame last (ack_meaning a) ≡ front ++ (shortest_varints header ++ back) =
    held_whole a h last all counts refl counts_are
    ∙ ap (λ (l : List ℕ). shortest_varints l ++ back) (sym (take-append-drop first all))
    ∙ ap (λ (l : List ℕ). l ++ back) (all_short-append (take first all) (drop first all))
    ∙ append_assoc front (shortest_varints (drop first all)) back
    ∙ ap (λ (l : List ℕ). front ++ (shortest_varints l ++ back)) (sym header_is) in
    ap (drop (length front)) whole ∙ drop_at front (shortest_varints header ++ back) (length front) refl

pub behind_length : (a : Ack) (h : HeldParts a) (last : Bool) (first : ℕ) (header : List ℕ) (counts : Option EcnCounts)
    (one two three : ℕ)
    → header ≡ drop first (header_numbers a) → counts ≡ a.ecn → one ≡ length (shortest_varints header)
    → two ≡ length (shortest_varints h.numbers) → three ≡ length (shortest_varints (count_numbers counts))
    → one + two + three
    ≡ length (drop (length (shortest_varints (take first (header_numbers a)))) (shortest_frame last (ack_meaning a)))
behind_length a h last first header counts one two three header_is counts_are p q r =
    let whole = ap length (held_behind a h last first header counts header_is counts_are) in
    let front =
    length-append (shortest_varints header) (shortest_varints h.numbers ++ shortest_varints (count_numbers counts)) in
    let back = length-append (shortest_varints h.numbers) (shortest_varints (count_numbers counts)) in
    omega (arith, whole, front, back, p, q, r)

pub numeric_behind : (first : ℕ) (ns : List ℕ) → AreNumeric ns → AreNumeric (drop first ns)
numeric_behind zero ns h = h
numeric_behind (suc first) [] h = h
numeric_behind (suc first) (n ∷ ns) h = numeric_behind first ns h.1

-- the numbers of an array of four from one on
pub cut_behind : (header all : List ℕ) (first : ℕ) → header ≡ all → length all ≡ 4
    → take (4 - first) (drop first header) ≡ drop first all
cut_behind header all first e four =
    ap (λ (l : List ℕ). take (4 - first) (drop first l)) e
    ∙ ap (λ (n : ℕ). take (n - first) (drop first all)) (sym four) ∙ take_rest all first

pub cut_few : (header : List ℕ) (first : ℕ) → length (take (4 - first) (drop first header)) ≤ 4
cut_few header first = omega (arith, length-take (4 - first) (drop first header))
