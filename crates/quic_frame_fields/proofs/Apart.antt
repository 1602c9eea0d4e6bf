-- The blocks of an ACK encode one list of ranges that never touch.
use Rattle.std.proofs.Common.{◌≡◌, ℕ, zero, suc, ◌+◌, ◌-◌, ◌≤◌, cond, ltb, List, [], ◌∷◌, length, Result, Ok, Err, refl, sym, ap, subst, ◌∙◌, arith}
use Rattle.std.proofs.lemmas.Bool.{ltb-false}
use Rattle.quic_frame_fields.specs.declared.frame.fault.Fault.{Fault}
use Rattle.quic_frame_fields.specs.declared.frame.fault.Fault.TheVariants.{Malformed}
use Rattle.quic_frame_fields.specs.Field.{AreBelow, AreBlocks, AreApart}
use Rattle.quic_base.specs.Reading.{◌>>=◌}
use Rattle.quic_frame_fields.specs.Reading.{varint_at, block_at, gap_at, below_at, after_blocks, range_at, range_and, ranges_below, first_and, ranges_of, IsBlocks}
use Rattle.quic_frame_fields.proofs.Steps.{bind_ok, guard_ok, ok_is}
use Rattle.quic_frame_fields.proofs.Blocks.{ranges_are}

pub one_list : (greatest : ℕ) (some others : List (ℕ × ℕ)) (bytes : List ℕ) → AreBlocks greatest some bytes
    → AreBlocks greatest others bytes → some ≡ others
one_list greatest [] others bytes a b = absurd a
one_list greatest (range ∷ ranges) [] bytes a b = absurd b
one_list greatest (range ∷ ranges) (other ∷ others) bytes a b =
    sym (ranges_are greatest range ranges bytes a) ∙ ranges_are greatest other others bytes b

below_apart : (range : ℕ × ℕ) (ranges : List (ℕ × ℕ)) (bytes : List ℕ) → range.0 ≤ range.1
    → AreBelow range.0 ranges bytes → AreApart (range ∷ ranges)
below_apart range [] bytes le a = le
below_apart range (below ∷ ranges) bytes le a = (le, a.5, below_apart below ranges a.2 a.4 a.8)

pub blocks_apart : (greatest : ℕ) (ranges : List (ℕ × ℕ)) (bytes : List ℕ) → AreBlocks greatest ranges bytes
    → AreApart ranges
blocks_apart greatest [] bytes a = absurd a
blocks_apart greatest (range ∷ ranges) bytes a = below_apart range ranges a.1 a.4 a.6

-- ---- ranges that are read never touch, whatever the bytes are

block_low : (greatest : ℕ) (bytes : List ℕ) (x : ℕ × List ℕ) → block_at greatest bytes ≡ Ok x → x.0 ≤ greatest
unfolding block_at
block_low greatest bytes x e =
    let a = bind_ok (varint_at bytes) (λ n. cond (ltb greatest n.0) (Err Malformed) (Ok (greatest - n.0, n.1))) x e in
    let g = guard_ok (ltb greatest a.0.0) Malformed (greatest - a.0.0, a.0.1) x a.2 in
    omega (arith, ap (λ (y : ℕ × List ℕ). y.0) g.1)

gap_low : (low : ℕ) (bytes : List ℕ) (x : ℕ × List ℕ) → gap_at low bytes ≡ Ok x → x.0 + 2 ≤ low
unfolding gap_at
gap_low low bytes x e =
    let a = bind_ok (varint_at bytes) (λ n. cond (ltb low (n.0 + 2)) (Err Malformed) (Ok (low - (n.0 + 2), n.1))) x e in
    let g = guard_ok (ltb low (a.0.0 + 2)) Malformed (low - (a.0.0 + 2), a.0.1) x a.2 in
    omega (arith, ltb-false _ _ g.0, ap (λ (y : ℕ × List ℕ). y.0) g.1)

range_apart : (low : ℕ) (bytes : List ℕ) (x : (ℕ × ℕ) × List ℕ) → range_at low bytes ≡ Ok x
    → (x.0.1 + 2 ≤ low) × (x.0.0 ≤ x.0.1)
unfolding range_at
range_apart low bytes x e =
    let a = bind_ok (gap_at low bytes) (λ gap. block_at gap.0 gap.1 >>= λ block. Ok ((block.0, gap.0), block.1)) x e in
    let b = bind_ok (block_at a.0.0 a.0.1) (λ block. Ok ((block.0, a.0.0), block.1)) x a.2 in
    let same : ((b.0.0, a.0.0), b.0.1) ≡ x = ok_is ((b.0.0, a.0.0), b.0.1) x b.2 in
    subst (λ (y : (ℕ × ℕ) × List ℕ). (y.0.1 + 2 ≤ low) × (y.0.0 ≤ y.0.1)) same (gap_low low bytes a.0 a.1, block_low a.0.0 a.0.1 b.0 b.1)

below_are_apart : (n : ℕ) (range : ℕ × ℕ) (bytes : List ℕ) → range.0 ≤ range.1
    → AreApart (range ∷ ranges_below n range.0 bytes)
unfolding ranges_below
below_are_apart zero range bytes le = le
below_are_apart (suc n) range [] le = le
below_are_apart (suc n) range (b ∷ bytes) le = by_range (range_at range.0 (b ∷ bytes)) refl (below_are_apart n)
  where
    by_range : (r : Result ((ℕ × ℕ) × List ℕ) Fault) → range_at range.0 (b ∷ bytes) ≡ r
        → ((next : ℕ × ℕ) (left : List ℕ) → next.0 ≤ next.1 → AreApart (next ∷ ranges_below n next.0 left))
        → AreApart (range ∷ range_and (ranges_below n) r)
    by_range (Err f) e others = le
    by_range (Ok x) e others = let a = range_apart range.0 (b ∷ bytes) x e in (le, a.0, others x.0 x.1 a.1)

pub record AreDown (greatest : ℕ) (ranges : List (ℕ × ℕ)) : Type 0 where
  pub first : ℕ × ℕ
  pub others : List (ℕ × ℕ)
  pub are : ranges ≡ first ∷ others
  pub top : first.1 ≡ greatest
  pub apart : AreApart ranges

-- ranges of bytes that are the blocks of an ACK
pub acked_apart : (greatest : ℕ) (bytes : List ℕ) → IsBlocks greatest bytes
    → AreDown greatest (ranges_of greatest bytes)
unfolding after_blocks ranges_of
acked_apart greatest bytes v =
    let a =
    bind_ok (block_at greatest bytes) (λ block. below_at (length (ranges_of greatest bytes) - 1) block.0 block.1) [] v in
    let are : first_and greatest (block_at greatest bytes) ≡ (a.0.0, greatest) ∷ ranges_below (length a.0.1) a.0.0 a.0.1 =
    ap (first_and greatest) a.1 in
    let apart = below_are_apart (length a.0.1) (a.0.0, greatest) a.0.1 (block_low greatest bytes a.0 a.1) in
    record {
      first = (a.0.0, greatest);
      others = ranges_below (length a.0.1) a.0.0 a.0.1;
      are = are;
      top = refl;
      apart = subst AreApart (sym are) apart;
    }
