-- The ranges of an ACK: what is read is encoded, and what is encoded is read.
use Rattle.std.proofs.Common.{◌≡◌, ℕ, zero, suc, ◌+◌, ◌-◌, ◌<◌, ◌≤◌, Bool, true, false, cond, ltb, List, [], ◌∷◌, ◌++◌, length, take, drop, Result, Ok, Err, refl, sym, ap, subst, ◌∙◌, append_assoc, inl, inr, arith}
use Rattle.std.proofs.lemmas.Bool.{ltb-false, le-ltb}
use Rattle.std.proofs.lemmas.List.{take_at, drop_at, length-append, append-nil}
use Rattle.quic_base.specs.Number.{AreBytes}
use Rattle.quic_base.specs.Varint.{Encodes}
use Rattle.quic_base.proofs.PublicLaws.{back_bytes}
use Rattle.quic_frame_fields.specs.declared.frame.fault.Fault.{Fault}
use Rattle.quic_frame_fields.specs.declared.frame.fault.Fault.TheVariants.{Malformed}
use Rattle.quic_frame_fields.specs.Field.{AreBelow, AreBlocks, NumberStops, BelowStops, RangesStop, BlocksStop}
use Rattle.quic_base.specs.Reading.{◌>>=◌}
use Rattle.quic_frame_fields.specs.Reading.{varint_at, block_at, gap_at, below_at, after_blocks, blocks_at, range_at, ranges_below, ranges_of, IsBlocks}
use Rattle.quic_frame_fields.proofs.Steps.{bind_ok, mapped_err, guard_ok, ok_is, err_of, failure}
use Rattle.quic_frame_fields.proofs.Varints.{varint_takes, varint_again, varint_fails, varint_some}

pub record TakesOne (bytes left : List ℕ) (n : ℕ) : Type 0 where
  pub front : List ℕ
  pub parts : bytes ≡ front ++ left
  pub encoded : Encodes n front
  pub left_fits : AreBytes left

pub block_takes : (greatest : ℕ) (bytes : List ℕ) (x : ℕ × List ℕ) → AreBytes bytes → block_at greatest bytes ≡ Ok x
    → (x.0 ≤ greatest) × TakesOne bytes x.1 (greatest - x.0)
unfolding block_at
block_takes greatest bytes x fits e =
    let a = bind_ok (varint_at bytes) (λ n. cond (ltb greatest n.0) (Err Malformed) (Ok (greatest - n.0, n.1))) x e in
    let g = guard_ok (ltb greatest a.0.0) Malformed (greatest - a.0.0, a.0.1) x a.2 in
    let small : a.0.0 ≤ greatest = ltb-false _ _ g.0 in
    let t = varint_takes bytes a.0.0 a.0.1 fits a.1 in
    let back : a.0.0 ≡ greatest - (greatest - a.0.0) = omega arith in
    subst (λ (y : ℕ × List ℕ). (y.0 ≤ greatest) × TakesOne bytes y.1 (greatest - y.0)) g.1 (
      omega arith,
      record {
        front = t.front;
        parts = t.split;
        encoded = subst (λ (k : ℕ). Encodes k t.front) back t.is;
        left_fits = back_bytes t.front a.0.1 (subst AreBytes t.split fits);
      },
    )

pub block_again : (greatest low : ℕ) (front left : List ℕ) → low ≤ greatest → Encodes (greatest - low) front
    → block_at greatest (front ++ left) ≡ Ok (low, left)
unfolding block_at
block_again greatest low front left le v =
    let small : ltb greatest (greatest - low) ≡ false = le-ltb _ _ (omega arith) in
    let back : greatest - (greatest - low) ≡ low = omega arith in
    rw (varint_again (greatest - low) front left v, small, back) refl

pub gap_takes : (low : ℕ) (bytes : List ℕ) (x : ℕ × List ℕ) → AreBytes bytes → gap_at low bytes ≡ Ok x
    → (x.0 + 2 ≤ low) × TakesOne bytes x.1 (low - (x.0 + 2))
unfolding gap_at
gap_takes low bytes x fits e =
    let a = bind_ok (varint_at bytes) (λ n. cond (ltb low (n.0 + 2)) (Err Malformed) (Ok (low - (n.0 + 2), n.1))) x e in
    let g = guard_ok (ltb low (a.0.0 + 2)) Malformed (low - (a.0.0 + 2), a.0.1) x a.2 in
    let small : a.0.0 + 2 ≤ low = ltb-false _ _ g.0 in
    let t = varint_takes bytes a.0.0 a.0.1 fits a.1 in
    let back : a.0.0 ≡ low - ((low - (a.0.0 + 2)) + 2) = omega arith in
    subst (λ (y : ℕ × List ℕ). (y.0 + 2 ≤ low) × TakesOne bytes y.1 (low - (y.0 + 2))) g.1 (
      omega arith,
      record {
        front = t.front;
        parts = t.split;
        encoded = subst (λ (k : ℕ). Encodes k t.front) back t.is;
        left_fits = back_bytes t.front a.0.1 (subst AreBytes t.split fits);
      },
    )

pub gap_again : (low high : ℕ) (front left : List ℕ) → high + 2 ≤ low → Encodes (low - (high + 2)) front
    → gap_at low (front ++ left) ≡ Ok (high, left)
unfolding gap_at
gap_again low high front left le v =
    let small : ltb low ((low - (high + 2)) + 2) ≡ false = le-ltb _ _ (omega arith) in
    let back : low - ((low - (high + 2)) + 2) ≡ high = omega arith in
    rw (varint_again (low - (high + 2)) front left v, small, back) refl

pub record TakesBelow (count low : ℕ) (bytes left : List ℕ) : Type 0 where
  pub front : List ℕ
  pub ranges : List (ℕ × ℕ)
  pub parts : bytes ≡ front ++ left
  pub len : length ranges ≡ count
  pub below : AreBelow low ranges front

below_takes : (count low : ℕ) (bytes left : List ℕ) → AreBytes bytes → below_at count low bytes ≡ Ok left
    → TakesBelow count low bytes left
unfolding below_at
below_takes zero low bytes left fits e =
    record { front = []; ranges = []; parts = ok_is bytes left e; len = refl; below = refl }
below_takes (suc count) low bytes left fits e =
    let a =
    bind_ok (gap_at low bytes) (λ gap. block_at gap.0 gap.1 >>= λ block. below_at count block.0 block.1) left e in
    let b = bind_ok (block_at a.0.0 a.0.1) (λ block. below_at count block.0 block.1) left a.2 in
    let g = gap_takes low bytes a.0 fits a.1 in
    let h = block_takes a.0.0 a.0.1 b.0 g.1.left_fits b.1 in
    let t = below_takes count b.0.0 b.0.1 left h.1.left_fits b.2 in
    record {
      front = g.1.front ++ (h.1.front ++ t.front);
      ranges = (b.0.0, a.0.0) ∷ t.ranges;
      parts = g.1.parts ∙ ap (λ (l : List ℕ). g.1.front ++ l)
          (h.1.parts ∙ ap (λ (l : List ℕ). h.1.front ++ l) t.parts ∙ sym (append_assoc h.1.front t.front left))
          ∙ sym (append_assoc g.1.front (h.1.front ++ t.front) left);
      len = ap suc t.len;
      below = (g.1.front, h.1.front, t.front, refl, h.0, g.0, g.1.encoded, h.1.encoded, t.below);
    }

below_again : (ranges : List (ℕ × ℕ)) (low : ℕ) (front left : List ℕ) → AreBelow low ranges front
    → below_at (length ranges) low (front ++ left) ≡ Ok left
unfolding below_at
below_again [] low front left s = rw s refl
below_again (range ∷ ranges) low front left s =
    let regrouped : front ++ left ≡ s.0 ++ (s.1 ++ (s.2 ++ left)) =
    ap (λ (l : List ℕ). l ++ left) s.3 ∙ append_assoc s.0 (s.1 ++ s.2) left
    ∙ ap (λ (l : List ℕ). s.0 ++ l) (append_assoc s.1 s.2 left) in
    let one = gap_again low range.1 s.0 (s.1 ++ (s.2 ++ left)) s.5 s.6 in
    let two = block_again range.1 range.0 s.1 (s.2 ++ left) s.4 s.7 in
    let others = below_again ranges range.0 s.2 left s.8 in
    ap (below_at (length (range ∷ ranges)) low) regrouped ∙ rw (one, two) others

-- the ranges that the bytes encode are those that are read
below_are : (ranges : List (ℕ × ℕ)) (n low : ℕ) (bytes : List ℕ) → length bytes ≤ n → AreBelow low ranges bytes
    → ranges_below n low bytes ≡ ranges
unfolding ranges_below range_at
below_are [] zero low bytes le s = refl
below_are [] (suc n) low bytes le s = rw s refl
below_are (range ∷ ranges) n low bytes le s =
    let sizes : length bytes ≡ length s.0 + (length s.1 + length s.2) =
    ap length s.3 ∙ length-append s.0 (s.1 ++ s.2) ∙ ap (λ (k : ℕ). length s.0 + k) (length-append s.1 s.2) in
    let some : 0 < length s.0 = varint_some (low - (range.1 + 2)) s.0 s.6 in
    let gap = ap (gap_at low) s.3 ∙ gap_again low range.1 s.0 (s.1 ++ s.2) s.5 s.6 in
    let block = block_again range.1 range.0 s.1 s.2 s.4 s.7 in
    step n bytes le (omega (arith, sizes, some)) gap block (λ m le2. below_are ranges m range.0 s.2 le2 s.8) (omega (arith, sizes, some))
  where
    step : (n : ℕ) (bytes : List ℕ) {block others : List ℕ} → length bytes ≤ n → 0 < length bytes
        → gap_at low bytes ≡ Ok (range.1, block) → block_at range.1 block ≡ Ok (range.0, others)
        → ((m : ℕ) → length others ≤ m → ranges_below m range.0 others ≡ ranges) → length others < length bytes
        → ranges_below n low bytes ≡ range ∷ ranges
    step n [] le some gap block rest lt = absurd (omega arith)
    step zero (b ∷ bytes) le some gap block rest lt = absurd (omega arith)
    step (suc n) (b ∷ bytes) le some gap block rest lt =
        let others = rest n (omega (arith, le, lt)) in
        rw (gap, block, others) refl

pub ranges_are : (greatest : ℕ) (range : ℕ × ℕ) (ranges : List (ℕ × ℕ)) (bytes : List ℕ)
    → AreBlocks greatest (range ∷ ranges) bytes → ranges_of greatest bytes ≡ range ∷ ranges
unfolding ranges_of
ranges_are greatest range ranges bytes s =
    let v : Encodes (greatest - range.0) s.0 = subst (λ (k : ℕ). Encodes (k - range.0) s.0) s.3 s.5 in
    let le : range.0 ≤ greatest = subst (λ (k : ℕ). range.0 ≤ k) s.3 s.4 in
    let one = ap (block_at greatest) s.2 ∙ block_again greatest range.0 s.0 s.1 le v in
    let others = below_are ranges (length s.1) range.0 s.1 (omega arith) s.6 in
    rw (one, others, ← s.3) refl

pub record TakesBlocks (greatest : ℕ) (bytes back left : List ℕ) : Type 0 where
  pub count_bytes : List ℕ
  pub parts : bytes ≡ (count_bytes ++ back) ++ left
  pub range : ℕ × ℕ
  pub ranges : List (ℕ × ℕ)
  pub count : Encodes (length ranges) count_bytes
  pub blocks : AreBlocks greatest (range ∷ ranges) back

pub record TakesRanges (count greatest : ℕ) (bytes left : List ℕ) : Type 0 where
  pub front : List ℕ
  pub parts : bytes ≡ front ++ left
  pub range : ℕ × ℕ
  pub ranges : List (ℕ × ℕ)
  pub len : length ranges ≡ count
  pub blocks : AreBlocks greatest (range ∷ ranges) front

pub ranges_take : (count greatest : ℕ) (bytes left : List ℕ) → AreBytes bytes
    → after_blocks count greatest bytes ≡ Ok left → TakesRanges count greatest bytes left
unfolding after_blocks
ranges_take count greatest bytes left fits e =
    let b = bind_ok (block_at greatest bytes) (λ block. below_at count block.0 block.1) left e in
    let h = block_takes greatest bytes b.0 fits b.1 in
    let t = below_takes count b.0.0 b.0.1 left h.1.left_fits b.2 in
    record {
      front = h.1.front ++ t.front;
      parts = h.1.parts ∙ ap (λ (l : List ℕ). h.1.front ++ l) t.parts ∙ sym (append_assoc h.1.front t.front left);
      range = (b.0.0, greatest);
      ranges = t.ranges;
      len = t.len;
      blocks = (h.1.front, t.front, refl, refl, h.0, h.1.encoded, t.below);
    }

pub ranges_shorter : (count greatest : ℕ) (bytes left : List ℕ) → AreBytes bytes
    → after_blocks count greatest bytes ≡ Ok left → length left ≤ length bytes
ranges_shorter count greatest bytes left fits e =
    let t = ranges_take count greatest bytes left fits e in
    omega (arith, ap length t.parts, length-append t.front left)

pub ranges_again : (greatest : ℕ) (range : ℕ × ℕ) (ranges : List (ℕ × ℕ)) (front left : List ℕ)
    → AreBlocks greatest (range ∷ ranges) front → after_blocks (length ranges) greatest (front ++ left) ≡ Ok left
unfolding after_blocks
ranges_again greatest range ranges front left s =
    let regrouped : front ++ left ≡ s.0 ++ (s.1 ++ left) =
    ap (λ (l : List ℕ). l ++ left) s.2 ∙ append_assoc s.0 s.1 left in
    let v : Encodes (greatest - range.0) s.0 = subst (λ (k : ℕ). Encodes (k - range.0) s.0) s.3 s.5 in
    let le : range.0 ≤ greatest = subst (λ (k : ℕ). range.0 ≤ k) s.3 s.4 in
    let one = block_again greatest range.0 s.0 (s.1 ++ left) le v in
    let others = below_again ranges range.0 s.1 left s.6 in
    ap (after_blocks (length ranges) greatest) regrouped ∙ rw one others

abbrev cut_off : List ℕ → List ℕ → List ℕ × List ℕ
cut_off bytes left = (take (length bytes - length left) bytes, drop (length bytes - length left) bytes)

cut_is : (bytes front left : List ℕ) → bytes ≡ front ++ left → cut_off bytes left ≡ (front, left)
cut_is bytes front left e =
    let len : length front ≡ length (front ++ left) - length left = omega (arith, length-append front left) in
    rw (
      e,
      take_at front left (length (front ++ left) - length left) len,
      drop_at front left (length (front ++ left) - length left) len,
    ) refl

pub blocks_take : (greatest : ℕ) (bytes back left : List ℕ) → AreBytes bytes
    → blocks_at greatest bytes ≡ Ok (back, left) → TakesBlocks greatest bytes back left
unfolding blocks_at
blocks_take greatest bytes back left fits e =
    let a =
    bind_ok (varint_at bytes) (λ count. after_blocks count.0 greatest count.1 >>= λ l. Ok (cut_off count.1 l)) (back, left) e in
    let b = bind_ok (after_blocks a.0.0 greatest a.0.1) (λ l. Ok (cut_off a.0.1 l)) (back, left) a.2 in
    let t = varint_takes bytes a.0.0 a.0.1 fits a.1 in
    let r = ranges_take a.0.0 greatest a.0.1 b.0 (back_bytes t.front a.0.1 (subst AreBytes t.split fits)) b.1 in
    let same : (r.front, b.0) ≡ (back, left) =
    sym (cut_is a.0.1 r.front b.0 r.parts) ∙ ok_is (cut_off a.0.1 b.0) (back, left) b.2 in
    subst (λ (p : List ℕ × List ℕ). TakesBlocks greatest bytes p.0 p.1) same
    (record {
      count_bytes = t.front;
      parts = t.split ∙ ap (λ (l : List ℕ). t.front ++ l) r.parts ∙ sym (append_assoc t.front r.front b.0);
      range = r.range;
      ranges = r.ranges;
      count = subst (λ (k : ℕ). Encodes k t.front) (sym r.len) t.is;
      blocks = r.blocks;
    })

pub blocks_again : (greatest : ℕ) (range : ℕ × ℕ) (ranges : List (ℕ × ℕ)) (front back left : List ℕ)
    → Encodes (length ranges) front → AreBlocks greatest (range ∷ ranges) back
    → blocks_at greatest ((front ++ back) ++ left) ≡ Ok (back, left)
unfolding blocks_at
blocks_again greatest range ranges front back left v s =
    let one = varint_again (length ranges) front (back ++ left) v in
    let two = ranges_again greatest range ranges back left s in
    rw (append_assoc front back left, one, two) (ap (λ (p : List ℕ × List ℕ). Ok p) (cut_is (back ++ left) back left refl))

pub blocks_valid : (greatest : ℕ) (bytes back left : List ℕ) → AreBytes bytes
    → blocks_at greatest bytes ≡ Ok (back, left) → IsBlocks greatest back
blocks_valid greatest bytes back left fits e =
    let t = blocks_take greatest bytes back left fits e in
    let are = ranges_are greatest t.range t.ranges back t.blocks in
    let again = ranges_again greatest t.range t.ranges back [] t.blocks in
    let count : length (ranges_of greatest back) - 1 ≡ length t.ranges = omega (arith, ap length are) in
    ap (λ (n : ℕ). after_blocks n greatest back) count
    ∙ ap (after_blocks (length t.ranges) greatest) (sym (append-nil back)) ∙ again

-- what is encoded is read, with its ranges
pub read_again : (greatest : ℕ) (ranges : List (ℕ × ℕ)) (bytes : List ℕ) → AreBlocks greatest ranges bytes
    → IsBlocks greatest bytes × (ranges_of greatest bytes ≡ ranges)
read_again greatest [] bytes s = absurd s
read_again greatest (range ∷ ranges) bytes s =
    let are = ranges_are greatest range ranges bytes s in
    let again = ranges_again greatest range ranges bytes [] s in
    let count : length (ranges_of greatest bytes) - 1 ≡ length ranges = omega (arith, ap length are) in
    (ap (λ (n : ℕ). after_blocks n greatest bytes) count ∙ ap (after_blocks (length ranges) greatest) (sym (append-nil bytes)) ∙ again, are)

-- what valid blocks encode
pub record Blocks (greatest : ℕ) (bytes : List ℕ) : Type 0 where
  pub range : ℕ × ℕ
  pub ranges : List (ℕ × ℕ)
  pub are : ranges_of greatest bytes ≡ range ∷ ranges
  pub blocks : AreBlocks greatest (range ∷ ranges) bytes

pub blocks_of : (greatest : ℕ) (bytes : List ℕ) → AreBytes bytes → IsBlocks greatest bytes → Blocks greatest bytes
blocks_of greatest bytes fits valid =
    let t = ranges_take (length (ranges_of greatest bytes) - 1) greatest bytes [] fits valid in
    let whole : bytes ≡ t.front = t.parts ∙ append-nil t.front in
    let blocks : AreBlocks greatest (t.range ∷ t.ranges) bytes =
    subst (AreBlocks greatest (t.range ∷ t.ranges)) (sym whole) t.blocks in
    record { range = t.range; ranges = t.ranges; are = ranges_are greatest t.range t.ranges bytes blocks; blocks = blocks }

-- the ranges that are read from valid blocks are theirs
pub acked : (greatest : ℕ) (bytes : List ℕ) → AreBytes bytes → IsBlocks greatest bytes
    → AreBlocks greatest (ranges_of greatest bytes) bytes
acked greatest bytes fits valid =
    let b = blocks_of greatest bytes fits valid in subst (λ (rs : List (ℕ × ℕ)). AreBlocks greatest rs bytes) (sym b.are) b.blocks

-- ---- what can't be read

pub number_fails : {A : Type 0} (bytes : List ℕ) (e : Fault) (is_large : ℕ → Bool) (k : ℕ × List ℕ → Result A Fault)
    (After : ℕ → List ℕ → Type 0)
    → AreBytes bytes
    → ((n : ℕ) (left : List ℕ) → AreBytes left → k (n, left) ≡ Err e → After n left)
    → (varint_at bytes >>= λ n. cond (is_large n.0) (Err Malformed) (k n)) ≡ Err e → NumberStops bytes e is_large After
number_fails bytes e is_large k After fits after h = by_result (varint_at bytes) refl h
  where
    by_test : (n : ℕ) (left : List ℕ) (b : Bool) → is_large n ≡ b → varint_at bytes ≡ Ok (n, left)
        → cond b (Err Malformed) (k (n, left)) ≡ Err e → NumberStops bytes e is_large After
    by_test n left true large v h =
        let t = varint_takes bytes n left fits v in
        inr (inl (n, t.front, left, t.split, t.is, (large, cc)))
    by_test n left false small v h =
        let t = varint_takes bytes n left fits v in
        inr (inr (n, t.front, left, t.split, t.is, (small, after n left (back_bytes t.front left (subst AreBytes t.split fits)) h)))

    by_result : (r : Result (ℕ × List ℕ) Fault) → varint_at bytes ≡ r
        → (r >>= λ n. cond (is_large n.0) (Err Malformed) (k n)) ≡ Err e → NumberStops bytes e is_large After
    by_result (Ok x) v h = by_test x.0 x.1 (is_large x.0) refl v h
    by_result (Err d) v h =
        let same : d ≡ e = cc in
        inl (
          (λ n front back parts s. let again = ap varint_at parts ∙ varint_again n front back s in absurd (cc (again, v))),
          sym same ∙ varint_fails bytes d v,
        )

number_stops : {A : Type 0} (bytes : List ℕ) (e : Fault) (is_large : ℕ → Bool) (k : ℕ × List ℕ → Result A Fault)
    (After : ℕ → List ℕ → Type 0)
    → AreBytes bytes
    → ((n : ℕ) (left : List ℕ) → AreBytes left → After n left → k (n, left) ≡ Err e)
    → NumberStops bytes e is_large After → (varint_at bytes >>= λ n. cond (is_large n.0) (Err Malformed) (k n)) ≡ Err e
number_stops bytes e is_large k After fits after (inl s) =
    let failed =
    err_of (varint_at bytes) (λ x h. let t = varint_takes bytes x.0 x.1 fits h in s.0 x.0 t.front x.1 t.split t.is) in
    rw (failed.1, varint_fails bytes failed.0 failed.1, s.1) refl
number_stops bytes e is_large k After fits after (inr (inl s)) =
    let one = ap varint_at s.3 ∙ varint_again s.0 s.1 s.2 s.4 in
    rw (one, s.5.0, s.5.1) refl
number_stops bytes e is_large k After fits after (inr (inr s)) =
    let one = ap varint_at s.3 ∙ varint_again s.0 s.1 s.2 s.4 in
    let two = after s.0 s.2 (back_bytes s.1 s.2 (subst AreBytes s.3 fits)) s.5.1 in
    rw (one, s.5.0) two

-- a step that tests a number, and what follows it
pub tested : {A : Type 0} (r : Result (ℕ × List ℕ) Fault) (is_large : ℕ → Bool) (f : ℕ → ℕ) (k : ℕ × List ℕ → Result A Fault)
    → ((r >>= λ n. cond (is_large n.0) (Err Malformed) (Ok (f n.0, n.1))) >>= k)
    ≡ (r >>= λ n. cond (is_large n.0) (Err Malformed) (k (f n.0, n.1)))
tested (Err e) is_large f k = refl
tested (Ok x) is_large f k = by_test (is_large x.0)
  where
    by_test : (b : Bool) → (cond b (Err Malformed) (Ok (f x.0, x.1)) >>= k) ≡ cond b (Err Malformed) (k (f x.0, x.1))
    by_test true = refl
    by_test false = refl

abbrev after_gap : ℕ → ℕ × List ℕ → Result (List ℕ) Fault
after_gap count gap = block_at gap.0 gap.1 >>= λ block. below_at count block.0 block.1

abbrev after_block : ℕ → ℕ × List ℕ → Result (List ℕ) Fault
after_block count block = below_at count block.0 block.1

below_fails : (count low : ℕ) (bytes : List ℕ) (e : Fault) → AreBytes bytes → below_at count low bytes ≡ Err e
    → BelowStops count low bytes e
unfolding below_at gap_at block_at
below_fails zero low bytes e fits h = absurd cc
below_fails (suc count) low bytes e fits h =
    let h1 = sym (tested (varint_at bytes) (λ gap. ltb low (gap + 2)) (λ gap. low - (gap + 2)) (after_gap count)) ∙ h in
    number_fails bytes e (λ gap. ltb low (gap + 2)) (λ n. after_gap count (low - (n.0 + 2), n.1)) _ fits
    (λ gap left left_fits g.
    let g1 =
    sym (tested (varint_at left) (λ block. ltb (low - (gap + 2)) block) (λ block. low - (gap + 2) - block) (after_block count))
    ∙ g in
    number_fails left e (λ block. ltb (low - (gap + 2)) block) (λ n. after_block count (low - (gap + 2) - n.0, n.1)) _ left_fits
    (λ block others others_fit f. below_fails count (low - (gap + 2) - block) others e others_fit f) g1) h1

below_stops : (count low : ℕ) (bytes : List ℕ) (e : Fault) → AreBytes bytes → BelowStops count low bytes e
    → below_at count low bytes ≡ Err e
unfolding below_at gap_at block_at
below_stops zero low bytes e fits s = absurd s
below_stops (suc count) low bytes e fits s =
    tested (varint_at bytes) (λ gap. ltb low (gap + 2)) (λ gap. low - (gap + 2)) (after_gap count)
    ∙ number_stops bytes e (λ gap. ltb low (gap + 2)) (λ n. after_gap count (low - (n.0 + 2), n.1)) _ fits
    (λ gap left left_fits g.
    tested (varint_at left) (λ block. ltb (low - (gap + 2)) block) (λ block. low - (gap + 2) - block) (after_block count)
    ∙ number_stops left e (λ block. ltb (low - (gap + 2)) block) (λ n. after_block count (low - (gap + 2) - n.0, n.1)) _ left_fits
    (λ block others others_fit f. below_stops count (low - (gap + 2) - block) others e others_fit f) g) s

pub ranges_fail : (count greatest : ℕ) (bytes : List ℕ) (e : Fault) → AreBytes bytes
    → after_blocks count greatest bytes ≡ Err e → RangesStop count greatest bytes e
unfolding after_blocks block_at
ranges_fail count greatest bytes e fits g =
    let g1 =
    sym (tested (varint_at bytes) (λ block. ltb greatest block) (λ block. greatest - block) (after_block count))
    ∙ g in
    number_fails bytes e (λ block. ltb greatest block) (λ n. after_block count (greatest - n.0, n.1)) _ fits
    (λ block others others_fit f. below_fails count (greatest - block) others e others_fit f) g1

ranges_stop : (count greatest : ℕ) (bytes : List ℕ) (e : Fault) → AreBytes bytes → RangesStop count greatest bytes e
    → after_blocks count greatest bytes ≡ Err e
unfolding after_blocks block_at
ranges_stop count greatest bytes e fits g =
    tested (varint_at bytes) (λ block. ltb greatest block) (λ block. greatest - block) (after_block count)
    ∙ number_stops bytes e (λ block. ltb greatest block) (λ n. after_block count (greatest - n.0, n.1)) _ fits
    (λ block others others_fit f. below_stops count (greatest - block) others e others_fit f) g

abbrev cut_all : List ℕ → List ℕ → Result (List ℕ × List ℕ) Fault
cut_all bytes left = Ok (cut_off bytes left)

pub blocks_fail : (greatest : ℕ) (bytes : List ℕ) (e : Fault) → AreBytes bytes → blocks_at greatest bytes ≡ Err e
    → BlocksStop greatest bytes e
unfolding blocks_at
blocks_fail greatest bytes e fits h =
    number_fails bytes e (λ count. false) (λ count. after_blocks count.0 greatest count.1 >>= cut_all count.1) _ fits
    (λ count left left_fits g. ranges_fail count greatest left e left_fits
    (mapped_err (after_blocks count greatest left) (cut_off left) e g)) h

pub blocks_stop : (greatest : ℕ) (bytes : List ℕ) (e : Fault) → AreBytes bytes → BlocksStop greatest bytes e
    → blocks_at greatest bytes ≡ failure e
unfolding blocks_at
blocks_stop greatest bytes e fits s =
    number_stops bytes e (λ count. false) (λ count. after_blocks count.0 greatest count.1 >>= cut_all count.1) _ fits
    (λ count left left_fits g. ap (λ r. r >>= cut_all left) (ranges_stop count greatest left e left_fits g)) s

pub blocks_reason : (greatest : ℕ) (bytes : List ℕ) (d e : Fault) → AreBytes bytes → BlocksStop greatest bytes d
    → BlocksStop greatest bytes e → d ≡ e
blocks_reason greatest bytes d e fits p q =
    same d e (sym (blocks_stop greatest bytes d fits p) ∙ blocks_stop greatest bytes e fits q)
  where
    same : (d e : Fault) → failure {A = List ℕ × List ℕ} d ≡ failure e → d ≡ e
    same d e h = cc
