-- The first range of bytes that may not be the blocks of an ACK.
use Rattle.std.proofs.Common.{◌≡◌, ◌≢◌, ℕ, ◌+◌, ◌-◌, ◌<◌, ◌≤◌, ltb, List, [], ◌∷◌, ◌++◌, length, drop, Ok, Err, refl, sym, ap, subst, ◌∙◌, append_assoc, inl, inr, arith}
use Rattle.std.specs.Prelude.{◌⊎◌}
use Rattle.std.proofs.lemmas.List.{drop_at, length-append}
use Rattle.quic_base.specs.Number.{AreBytes}
use Rattle.quic_base.specs.Varint.{Encodes}
use Rattle.quic_frame_fields.specs.declared.frame.fault.Fault.{Fault}
use Rattle.quic_frame_fields.specs.Field.{AreBelow, NumberStops}
use Rattle.quic_frame_fields.specs.FirstRange.{AreLeft, BeginsWithRange, SplitsRanges, RangeStops}
use Rattle.quic_frame_fields.specs.Refusal.{AreNoBlocks}
use Rattle.quic_base.specs.Reading.{◌>>=◌}
use Rattle.quic_frame_fields.specs.Reading.{varint_at, block_at, gap_at, next_range_at, first_range_at}
use Rattle.quic_frame_fields.proofs.Steps.{append_is_nil, bind_ok, bind_err, mapped_err, ok_is}
use Rattle.quic_frame_fields.proofs.Gaps.{short_block, short_gap}
use Rattle.quic_frame_fields.proofs.Varints.{varint_some}
use Rattle.quic_frame_fields.proofs.Blocks.{block_takes, block_again, gap_takes, gap_again, number_fails, tested}
use Rattle.quic_frame_fields.proofs.UncountedBlocks.{comes_first, first_stops, gap_stops, block_reason, gap_reason, IsCutOrLarge}

-- ---- step by step

next_none : (least : ℕ) (rest : List ℕ) → length rest ≡ 0 → next_range_at least rest ≡ Ok (least, 0, rest)
next_none least [] e = refl
next_none least (b ∷ rest) e = absurd (omega (arith, e))

next_some : (least : ℕ) (rest : List ℕ) → 0 < length rest
    → next_range_at least rest ≡ (gap_at least rest >>= λ gap. Ok (least, gap.0, gap.1))
next_some least [] some = absurd (omega (arith, some))
next_some least (b ∷ rest) some = refl

pub no_block : (greatest : ℕ) (bytes : List ℕ) (e : Fault) → block_at greatest bytes ≡ Err e
    → first_range_at greatest bytes ≡ Err e
unfolding first_range_at
no_block greatest bytes e h = rw h refl

pub last_block : (greatest least : ℕ) (bytes rest : List ℕ) → block_at greatest bytes ≡ Ok (least, rest)
    → length rest ≡ 0 → first_range_at greatest bytes ≡ Ok (least, 0, rest)
unfolding first_range_at
last_block greatest least bytes rest h none = rw h (next_none least rest none)

pub no_gap_after : (greatest least : ℕ) (bytes rest : List ℕ) (e : Fault) → block_at greatest bytes ≡ Ok (least, rest)
    → 0 < length rest → gap_at least rest ≡ Err e → first_range_at greatest bytes ≡ Err e
unfolding first_range_at
no_gap_after greatest least bytes rest e h some g = rw h (next_some least rest some ∙ rw g refl)

pub block_and_gap : (greatest least next : ℕ) (bytes rest others : List ℕ) → block_at greatest bytes ≡ Ok (least, rest)
    → 0 < length rest → gap_at least rest ≡ Ok (next, others)
    → first_range_at greatest bytes ≡ Ok (least, next, others)
unfolding first_range_at
block_and_gap greatest least next bytes rest others h some g = rw h (next_some least rest some ∙ rw g refl)

-- a block and a gap of one byte each
pub short_step : (greatest n m : ℕ) (rest : List ℕ) → n < 64 → m < 64 → n + (m + 2) ≤ greatest
    → first_range_at greatest (n ∷ m ∷ rest) ≡ Ok (greatest - n, greatest - (n + (m + 2)), rest)
short_step greatest n m rest one two le =
    let all : greatest - n - (m + 2) ≡ greatest - (n + (m + 2)) = omega arith in
    let gap : gap_at (greatest - n) (m ∷ rest) ≡ Ok (greatest - (n + (m + 2)), rest) =
    rw (← all) (short_gap (greatest - n) m rest two (omega arith)) in
    let some : 0 < length (m ∷ rest) = omega arith in
    block_and_gap greatest (greatest - n) (greatest - (n + (m + 2))) (n ∷ m ∷ rest) (m ∷ rest) rest
    (short_block greatest n (m ∷ rest) one (omega arith)) some gap

-- ---- what the step says

-- What is known if a range comes first.
pub record SplitsFirst (greatest : ℕ) (bytes : List ℕ) (least next : ℕ) (rest : List ℕ) : Type 0 where
  pub begins : BeginsWithRange greatest bytes least next rest
  pub shorter : length rest < length bytes
  pub left : drop (length bytes - length rest) bytes ≡ rest
  pub ranges : SplitsRanges greatest bytes least next rest

left_of : (bytes front rest : List ℕ) → bytes ≡ front ++ rest → drop (length bytes - length rest) bytes ≡ rest
left_of bytes front rest e =
    let n : length bytes - length rest ≡ length front = omega (arith, ap length e, length-append front rest) in
    ap (λ (k : ℕ). drop k bytes) n ∙ ap (drop (length front)) e ∙ drop_at front rest (length front) refl

-- the ranges below the first, and what the bytes after its block begin with
others_left : (least next : ℕ) (ranges : List (ℕ × ℕ)) (gap rest : List ℕ) → AreBelow least ranges (gap ++ rest)
    → ((gap ++ rest ≡ []) × (next ≡ 0)) ⊎ ((next + 2 ≤ least) × Encodes (least - (next + 2)) gap)
    → AreLeft next ranges rest
others_left least next [] gap rest s below = append_is_nil gap rest s
others_left least next (range ∷ ranges) gap rest s (inl none) =
    let some = varint_some (least - (range.1 + 2)) s.0 s.6 in
    absurd (omega (arith, ap length s.3, ap length none.0, length-append s.0 (s.1 ++ s.2), some))
others_left least next (range ∷ ranges) gap rest s (inr here) =
    let same : (range.1, s.1 ++ s.2) ≡ (next, rest) =
    ok_is (range.1, s.1 ++ s.2) (next, rest)
    (sym (gap_again least range.1 s.0 (s.1 ++ s.2) s.5 s.6) ∙ ap (gap_at least) (sym s.3)
    ∙ gap_again least next gap rest here.0 here.1) in (
      s.1,
      s.2,
      sym (ap (λ (p : ℕ × List ℕ). p.1) same),
      ap (λ (p : ℕ × List ℕ). p.0) same,
      s.4,
      s.7,
      s.8,
    )

splits_ranges : (greatest : ℕ) (bytes : List ℕ) (least next : ℕ) (rest : List ℕ)
    → BeginsWithRange greatest bytes least next rest → SplitsRanges greatest bytes least next rest
splits_ranges greatest bytes least next rest b [] s = absurd s
splits_ranges greatest bytes least next rest b (range ∷ ranges) s =
    let v : Encodes (greatest - range.0) s.0 = subst (λ (k : ℕ). Encodes (k - range.0) s.0) s.3 s.5 in
    let le : range.0 ≤ greatest = subst (λ (k : ℕ). range.0 ≤ k) s.3 s.4 in
    let same : (range.0, s.1) ≡ (least, b.gap ++ rest) =
    ok_is (range.0, s.1) (least, b.gap ++ rest)
    (sym (block_again greatest range.0 s.0 s.1 le v) ∙ ap (block_at greatest) (sym s.2 ∙ b.parts)
    ∙ block_again greatest least b.block (b.gap ++ rest) b.ordered b.first) in
    let low : range.0 ≡ least = ap (λ (p : ℕ × List ℕ). p.0) same in
    let bounds : (range.0, range.1) ≡ (least, greatest) =
    ap (λ (p : ℕ). (p, range.1)) low ∙ ap (λ (q : ℕ). (least, q)) s.3 in (
      ranges,
      ap (λ (r : ℕ × ℕ). r ∷ ranges) bounds,
      others_left least next ranges b.gap rest
          (subst (λ (p : ℕ × List ℕ). AreBelow p.0 ranges p.1) same s.6) b.below,
    )

splits : (greatest : ℕ) (bytes : List ℕ) (least next : ℕ) (rest : List ℕ)
    → BeginsWithRange greatest bytes least next rest → SplitsFirst greatest bytes least next rest
splits greatest bytes least next rest b =
    let parts : bytes ≡ (b.block ++ b.gap) ++ rest = b.parts ∙ sym (append_assoc b.block b.gap rest) in
    let some = varint_some (greatest - least) b.block b.first in
    record {
      begins = b;
      shorter = omega (arith, ap length parts, length-append (b.block ++ b.gap) rest, length-append b.block b.gap, some);
      left = left_of bytes (b.block ++ b.gap) rest parts;
      ranges = splits_ranges greatest bytes least next rest b;
    }

splits_last : (greatest : ℕ) (bytes : List ℕ) (least : ℕ) → AreBytes bytes → block_at greatest bytes ≡ Ok (least, [])
    → SplitsFirst greatest bytes least 0 []
splits_last greatest bytes least fits h =
    let b = block_takes greatest bytes (least, []) fits h in
    splits greatest bytes least 0 [] (record {
      block = b.1.front;
      gap = [];
      parts = b.1.parts;
      ordered = b.0;
      first = b.1.encoded;
      below = inl (refl, refl);
    })

splits_next : (greatest : ℕ) (bytes : List ℕ) (least : ℕ) (rest : List ℕ) (next : ℕ) (others : List ℕ) → AreBytes bytes
    → block_at greatest bytes ≡ Ok (least, rest) → gap_at least rest ≡ Ok (next, others)
    → SplitsFirst greatest bytes least next others
splits_next greatest bytes least rest next others fits h g =
    let b = block_takes greatest bytes (least, rest) fits h in
    let t = gap_takes least rest (next, others) b.1.left_fits g in
    splits greatest bytes least next others (record {
      block = b.1.front;
      gap = t.1.front;
      parts = b.1.parts ∙ ap (λ (l : List ℕ). b.1.front ++ l) t.1.parts;
      ordered = b.0;
      first = b.1.encoded;
      below = inr (t.0, t.1.encoded);
    })

pub splits_first : (greatest : ℕ) (bytes : List ℕ) (x : ℕ × ℕ × List ℕ) → AreBytes bytes
    → first_range_at greatest bytes ≡ Ok x → SplitsFirst greatest bytes x.0 x.1 x.2
unfolding first_range_at
splits_first greatest bytes x fits e =
    let b = bind_ok (block_at greatest bytes) (λ block. next_range_at block.0 block.1) x e in
    by_rest b.0.0 b.0.1 b.1 b.2
  where
    by_rest : (least : ℕ) (rest : List ℕ) → block_at greatest bytes ≡ Ok (least, rest) → next_range_at least rest ≡ Ok x
        → SplitsFirst greatest bytes x.0 x.1 x.2
    by_rest least [] h n = subst (λ (y : ℕ × ℕ × List ℕ). SplitsFirst greatest bytes y.0 y.1 y.2)
        (ok_is (least, 0, []) x n) (splits_last greatest bytes least fits h)
    by_rest least (c ∷ rest) h n =
        let g = bind_ok (gap_at least (c ∷ rest)) (λ gap. Ok (least, gap.0, gap.1)) x n in
        subst (λ (y : ℕ × ℕ × List ℕ). SplitsFirst greatest bytes y.0 y.1 y.2) (ok_is (least, g.0.0, g.0.1) x g.2)
        (splits_next greatest bytes least (c ∷ rest) g.0.0 g.0.1 fits h g.1)

-- What is known if none does.
pub record IsRefused (greatest : ℕ) (bytes : List ℕ) (e : Fault) : Type 0 where
  pub reason : IsCutOrLarge e
  pub stops : RangeStops greatest bytes e
  pub refused : AreNoBlocks greatest bytes e

gap_fails : (least : ℕ) (rest : List ℕ) (e : Fault) → AreBytes rest → next_range_at least rest ≡ Err e
    → (rest ≢ []) × NumberStops rest e (λ gap. ltb least (gap + 2)) (λ gap others. ⊥)
unfolding gap_at
gap_fails least [] e fits h = absurd cc
gap_fails least (c ∷ rest) e fits h =
    let g =
    sym (tested (varint_at (c ∷ rest)) (λ gap. ltb least (gap + 2)) (λ gap. least - (gap + 2)) (λ gap. Ok (least, gap.0, gap.1)))
    ∙ h in (
      λ none. cc,
      number_fails (c ∷ rest) e (λ gap. ltb least (gap + 2)) (λ n. Ok (least, least - (n.0 + 2), n.1)) _ fits
          (λ gap left left_fits f. absurd cc) g,
    )

range_fails : (greatest : ℕ) (bytes : List ℕ) (e : Fault) → AreBytes bytes → first_range_at greatest bytes ≡ Err e
    → RangeStops greatest bytes e
unfolding first_range_at block_at
range_fails greatest bytes e fits h =
    let g =
    sym (tested (varint_at bytes) (λ block. ltb greatest block) (λ block. greatest - block) (λ block. next_range_at block.0 block.1))
    ∙ h in
    number_fails bytes e (λ block. ltb greatest block) (λ n. next_range_at (greatest - n.0) n.1) _ fits
    (λ block rest rest_fits f. gap_fails (greatest - block) rest e rest_fits f) g

pub none_first : (greatest : ℕ) (bytes : List ℕ) (e : Fault) → AreBytes bytes → first_range_at greatest bytes ≡ Err e
    → IsRefused greatest bytes e
unfolding first_range_at
none_first greatest bytes e fits h =
    elim (bind_err (block_at greatest bytes) (λ block. next_range_at block.0 block.1) e h) [
      | inl b ↦ record {
        reason = block_reason greatest bytes e b;
        stops = range_fails greatest bytes e fits h;
        refused = first_stops greatest bytes e fits b;
      }
      | inr g ↦ by_rest g.0.0 g.0.1 g.1 g.2
    ]
  where
    by_rest : (least : ℕ) (rest : List ℕ) → block_at greatest bytes ≡ Ok (least, rest)
        → next_range_at least rest ≡ Err e → IsRefused greatest bytes e
    by_rest least [] b n = absurd cc
    by_rest least (c ∷ rest) b n =
        let some : 0 < length (c ∷ rest) = omega arith in
        let g = mapped_err (gap_at least (c ∷ rest)) (λ gap. (least, gap.0, gap.1)) e n in
        record {
          reason = gap_reason least (c ∷ rest) e g;
          stops = range_fails greatest bytes e fits h;
          refused = gap_stops greatest least bytes (c ∷ rest) e fits (comes_first greatest least bytes (c ∷ rest) b) some g;
        }
