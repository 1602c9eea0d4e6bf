-- Blocks of an ACK one after the other, with no count of them.
use Rattle.std.proofs.Common.{◌≡◌, ℕ, zero, suc, ◌+◌, ◌-◌, ◌<◌, ◌≤◌, Bool, true, false, cond, ltb, eqb, List, [], ◌∷◌, ◌++◌, length, Ok, Err, refl, sym, ap, subst, ◌∙◌, inl, inr, arith}
use Rattle.std.specs.Prelude.{◌⊎◌}
use Rattle.std.proofs.lemmas.Bool.{cases_lt}
use Rattle.std.proofs.lemmas.Bool.Decides.{nat_tests}
use Rattle.std.proofs.lemmas.List.{length-append, append-nil}
use Rattle.quic_base.specs.Number.{AreBytes}
use Rattle.quic_base.specs.Varint.{Encodes}
use Rattle.quic_frame_fields.specs.declared.frame.fault.Fault.{Fault}
use Rattle.quic_frame_fields.specs.declared.frame.fault.Fault.TheVariants.{Malformed, UnexpectedEnd}
use Rattle.quic_frame_fields.specs.Field.{AreBlocks}
use Rattle.quic_frame_fields.specs.Refusal.{AreNoBlocks}
use Rattle.quic_base.specs.Reading.{◌>>=◌, number_at}
use Rattle.quic_frame_fields.specs.Reading.{varint_at, block_at, gap_at, below_at, after_blocks, ranges_of, IsBlocks, blocks_left}
use Rattle.quic_frame_fields.proofs.Steps.{bind_ok, bind_err, ok_is, ok_is_not_err, failure}
use Rattle.quic_frame_fields.proofs.Varints.{varint_fails, varint_some}
use Rattle.quic_frame_fields.proofs.Blocks.{block_again, block_takes, blocks_of, gap_again, gap_takes, ranges_again, ranges_are, ranges_fail, ranges_take}

-- reading stops for one of two reasons
pub record IsCutOrLarge (e : Fault) : Type 0 where
  pub either : (e ≡ UnexpectedEnd) ⊎ (e ≡ Malformed)

large_or : {A : Type 0} (b : Bool) (x : A) (e : Fault) → cond b (Err Malformed) (Ok x) ≡ Err e → e ≡ Malformed
large_or true x e h = cc
large_or false x e h = absurd cc

pub block_reason : (greatest : ℕ) (bytes : List ℕ) (e : Fault) → block_at greatest bytes ≡ Err e → IsCutOrLarge e
unfolding block_at
block_reason greatest bytes e h =
    elim (bind_err (varint_at bytes) (λ n. cond (ltb greatest n.0) (Err Malformed) (Ok (greatest - n.0, n.1))) e h) [
      | inl first ↦ record { either = inl (varint_fails bytes e first) }
      | inr second ↦ record { either = inr (large_or (ltb greatest second.0.0) (greatest - second.0.0, second.0.1) e second.2) }
    ]

pub gap_reason : (low : ℕ) (bytes : List ℕ) (e : Fault) → gap_at low bytes ≡ Err e → IsCutOrLarge e
unfolding gap_at
gap_reason low bytes e h =
    elim (bind_err (varint_at bytes) (λ n. cond (ltb low (n.0 + 2)) (Err Malformed) (Ok (low - (n.0 + 2), n.1))) e h) [
      | inl first ↦ record { either = inl (varint_fails bytes e first) }
      | inr second ↦ record { either = inr (large_or (ltb low (second.0.0 + 2)) (low - (second.0.0 + 2), second.0.1) e second.2) }
    ]

-- a block and a gap have bytes
pub block_shorter : (greatest : ℕ) (bytes : List ℕ) (x : ℕ × List ℕ) → AreBytes bytes → block_at greatest bytes ≡ Ok x
    → length x.1 < length bytes
block_shorter greatest bytes x fits e =
    let t = (block_takes greatest bytes x fits e).1 in
    omega (arith, ap length t.parts, length-append t.front x.1, varint_some (greatest - x.0) t.front t.encoded)

pub gap_shorter : (low : ℕ) (bytes : List ℕ) (x : ℕ × List ℕ) → AreBytes bytes → gap_at low bytes ≡ Ok x
    → length x.1 < length bytes
gap_shorter low bytes x fits e =
    let t = (gap_takes low bytes x fits e).1 in
    omega (arith, ap length t.parts, length-append t.front x.1, varint_some (low - (x.0 + 2)) t.front t.encoded)

pub block_left : (greatest : ℕ) (bytes : List ℕ) (x : ℕ × List ℕ) → AreBytes bytes → block_at greatest bytes ≡ Ok x
    → AreBytes x.1
block_left greatest bytes x fits e = (block_takes greatest bytes x fits e).1.left_fits

-- Reading that many pairs of the bytes and then more is reading the others from what is left.
pub record Comes (greatest : ℕ) (bytes : List ℕ) (low : ℕ) (rest : List ℕ) : Type 0 where
  pub pairs : ℕ
  pub same : (more : ℕ) → after_blocks (pairs + more) greatest bytes ≡ below_at more low rest

pub comes_first : (greatest low : ℕ) (bytes rest : List ℕ) → block_at greatest bytes ≡ Ok (low, rest)
    → Comes greatest bytes low rest
unfolding after_blocks
comes_first greatest low bytes rest e = record {
  pairs = 0;
  same = λ more. let n : 0 + more ≡ more = omega arith in rw (n, e) refl;
}

pub comes_further : (greatest low high least : ℕ) (bytes rest after_gap after : List ℕ) → Comes greatest bytes low rest
    → gap_at low rest ≡ Ok (high, after_gap) → block_at high after_gap ≡ Ok (least, after)
    → Comes greatest bytes least after
unfolding below_at
comes_further greatest low high least bytes rest after_gap after c g b = record {
  pairs = c.pairs + 1;
  same = λ more.
      let n : c.pairs + 1 + more ≡ c.pairs + suc more = omega arith in
      ap (λ (k : ℕ). after_blocks k greatest bytes) n ∙ c.same (suc more) ∙ rw (g, b) refl;
}

-- nothing is left: these are blocks
pub all_read : (greatest low : ℕ) (bytes : List ℕ) → AreBytes bytes → Comes greatest bytes low []
    → IsBlocks greatest bytes
unfolding below_at
all_read greatest low bytes fits c =
    let n : c.pairs + 0 ≡ c.pairs = omega arith in
    let e : after_blocks c.pairs greatest bytes ≡ Ok [] =
    ap (λ (k : ℕ). after_blocks k greatest bytes) (sym n) ∙ c.same 0 in
    let t = ranges_take c.pairs greatest bytes [] fits e in
    let whole : bytes ≡ t.front = t.parts ∙ append-nil t.front in
    let blocks : AreBlocks greatest (t.range ∷ t.ranges) bytes =
    subst (AreBlocks greatest (t.range ∷ t.ranges)) (sym whole) t.blocks in
    let count : length (ranges_of greatest bytes) - 1 ≡ c.pairs =
    omega (arith, ap length (ranges_are greatest t.range t.ranges bytes blocks), t.len) in
    ap (λ (k : ℕ). after_blocks k greatest bytes) count ∙ e

-- reading that continues after that many pairs
record GoesOn (pairs low : ℕ) (bytes left : List ℕ) : Type 0 where
  low_left : ℕ
  same : (more : ℕ) → below_at (pairs + more) low bytes ≡ below_at more low_left left

one_more : (pairs more low high least : ℕ) (bytes after_gap after : List ℕ) → gap_at low bytes ≡ Ok (high, after_gap)
    → block_at high after_gap ≡ Ok (least, after)
    → below_at (suc pairs + more) low bytes ≡ below_at (pairs + more) least after
unfolding below_at
one_more pairs more low high least bytes after_gap after g b =
    let n : suc pairs + more ≡ suc (pairs + more) = omega arith in ap (λ (k : ℕ). below_at k low bytes) n ∙ rw (g, b) refl

goes_on : (pairs low : ℕ) (bytes left : List ℕ) → below_at pairs low bytes ≡ Ok left → GoesOn pairs low bytes left
unfolding below_at
goes_on zero low bytes left e = record {
  low_left = low;
  same = λ more. let n : 0 + more ≡ more = omega arith in ap (λ (k : ℕ). below_at k low bytes) n
      ∙ ap (below_at more low) (ok_is bytes left e);
}
goes_on (suc pairs) low bytes left e =
    let a =
    bind_ok (gap_at low bytes) (λ gap. block_at gap.0 gap.1 >>= λ block. below_at pairs block.0 block.1) left e in
    let b = bind_ok (block_at a.0.0 a.0.1) (λ block. below_at pairs block.0 block.1) left a.2 in
    let t = goes_on pairs b.0.0 b.0.1 left b.2 in
    record {
      low_left = t.low_left;
      same = λ more. one_more pairs more low a.0.0 b.0.0 bytes a.0.1 b.0.1 a.1 b.1 ∙ t.same more;
    }

-- no pair is read from no bytes
none_of_nothing : (more low : ℕ) → below_at (suc more) low [] ≡ Err UnexpectedEnd
unfolding below_at gap_at varint_at number_at
none_of_nothing more low = refl

-- If reading another pair of what is left fails, the bytes aren't blocks.
stops_short : (greatest low count : ℕ) (bytes rest : List ℕ) (e : Fault) → Comes greatest bytes low rest
    → 0 < length rest → ((more : ℕ) → below_at (suc more) low rest ≡ Err e) → after_blocks count greatest bytes ≡ Ok []
    → ⊥
unfolding below_at after_blocks
stops_short greatest low count bytes rest e c some stops h =
    elim (cases_lt count c.pairs) [
      | inl lt ↦
          let b = bind_ok (block_at greatest bytes) (λ block. below_at count block.0 block.1) [] h in
          let t = goes_on count b.0.0 b.0.1 [] b.2 in
          let n : count + suc (c.pairs - count - 1) ≡ c.pairs + 0 = omega (arith, lt) in
          let fails : after_blocks (count + suc (c.pairs - count - 1)) greatest bytes ≡ failure UnexpectedEnd =
          rw b.1 (t.same (suc (c.pairs - count - 1)) ∙ none_of_nothing (c.pairs - count - 1) t.low_left) in
          ok_is_not_err (sym (c.same 0) ∙ ap (λ (k : ℕ). after_blocks k greatest bytes) (sym n) ∙ fails)
      | inr le ↦ further (count - c.pairs) (omega (arith, le))
    ]
  where
    further : (d : ℕ) → c.pairs + d ≡ count → ⊥
    further zero same =
        let none : rest ≡ [] =
        ok_is rest [] (sym (c.same 0) ∙ ap (λ (k : ℕ). after_blocks k greatest bytes) same ∙ h) in
        absurd (omega (arith, ap length none, some))
    further (suc d) same = ok_is_not_err (sym h ∙ ap (λ (k : ℕ). after_blocks k greatest bytes) (sym same) ∙ c.same (suc d) ∙ stops d)

no_blocks_here : (greatest low : ℕ) (ranges : List (ℕ × ℕ)) (bytes rest : List ℕ) (e : Fault)
    → Comes greatest bytes low rest → 0 < length rest → ((more : ℕ) → below_at (suc more) low rest ≡ Err e)
    → AreBlocks greatest ranges bytes → ⊥
no_blocks_here greatest low [] bytes rest e c some stops s = s
no_blocks_here greatest low (range ∷ ranges) bytes rest e c some stops s =
    let again = ranges_again greatest range ranges bytes [] s in
    stops_short greatest low (length ranges) bytes rest e c some stops
    (ap (after_blocks (length ranges) greatest) (sym (append-nil bytes)) ∙ again)

stops_here : (greatest low : ℕ) (bytes rest : List ℕ) (e : Fault) → AreBytes bytes → Comes greatest bytes low rest
    → 0 < length rest → ((more : ℕ) → below_at (suc more) low rest ≡ Err e) → AreNoBlocks greatest bytes e
stops_here greatest low bytes rest e fits c some stops = record {
  none = λ ranges s. no_blocks_here greatest low ranges bytes rest e c some stops s;
  pairs = c.pairs + 1;
  stop = ranges_fail (c.pairs + 1) greatest bytes e fits (c.same 1 ∙ stops 0);
}

pub gap_stops : (greatest low : ℕ) (bytes rest : List ℕ) (e : Fault) → AreBytes bytes → Comes greatest bytes low rest
    → 0 < length rest → gap_at low rest ≡ Err e → AreNoBlocks greatest bytes e
unfolding below_at
gap_stops greatest low bytes rest e fits c some g = stops_here greatest low bytes rest e fits c some (λ more. rw g refl)

pub block_stops : (greatest low high : ℕ) (bytes rest after_gap : List ℕ) (e : Fault) → AreBytes bytes
    → Comes greatest bytes low rest → 0 < length rest → gap_at low rest ≡ Ok (high, after_gap)
    → block_at high after_gap ≡ Err e
    → AreNoBlocks greatest bytes e
unfolding below_at
block_stops greatest low high bytes rest after_gap e fits c some g b =
    stops_here greatest low bytes rest e fits c some (λ more. rw (g, b) refl)

no_first : (greatest : ℕ) (ranges : List (ℕ × ℕ)) (bytes : List ℕ) (e : Fault) → block_at greatest bytes ≡ Err e
    → AreBlocks greatest ranges bytes → ⊥
no_first greatest [] bytes e h s = s
no_first greatest (range ∷ ranges) bytes e h s =
    let v : Encodes (greatest - range.0) s.0 = subst (λ (k : ℕ). Encodes (k - range.0) s.0) s.3 s.5 in
    let le : range.0 ≤ greatest = subst (λ (k : ℕ). range.0 ≤ k) s.3 s.4 in
    ok_is_not_err (sym (block_again greatest range.0 s.0 s.1 le v) ∙ ap (block_at greatest) (sym s.2) ∙ h)

pub first_stops : (greatest : ℕ) (bytes : List ℕ) (e : Fault) → AreBytes bytes → block_at greatest bytes ≡ Err e
    → AreNoBlocks greatest bytes e
unfolding after_blocks
first_stops greatest bytes e fits h = record {
  none = λ ranges s. no_first greatest ranges bytes e h s;
  pairs = 0;
  stop = ranges_fail 0 greatest bytes e fits (rw h refl);
}

-- ---- the ranges of blocks, one after the other

-- What the first block of some blocks says, and whether a gap and other blocks follow it.
pub data FirstOf (greatest : ℕ) (bytes : List ℕ) (least : ℕ) (rest : List ℕ) : Type 0 where
  Last : rest ≡ [] → ranges_of greatest bytes ≡ (least, greatest) ∷ [] → FirstOf greatest bytes least rest
  Next : (next : ℕ) (others : List ℕ) → gap_at least rest ≡ Ok (next, others) → IsBlocks next others → 0 < length others
      → ranges_of greatest bytes ≡ (least, greatest) ∷ ranges_of next others → FirstOf greatest bytes least rest

first_in : (greatest : ℕ) (range : ℕ × ℕ) (ranges : List (ℕ × ℕ)) (bytes : List ℕ) (least : ℕ) (rest : List ℕ)
    → AreBytes bytes → AreBlocks greatest (range ∷ ranges) bytes → block_at greatest bytes ≡ Ok (least, rest)
    → FirstOf greatest bytes least rest
first_in greatest range [] bytes least rest fits s e =
    let v : Encodes (greatest - range.0) s.0 = subst (λ (k : ℕ). Encodes (k - range.0) s.0) s.3 s.5 in
    let le : range.0 ≤ greatest = subst (λ (k : ℕ). range.0 ≤ k) s.3 s.4 in
    let here : (range.0, s.1) ≡ (least, rest) =
    ok_is (range.0, s.1) (least, rest) (sym (block_again greatest range.0 s.0 s.1 le v) ∙ ap (block_at greatest) (sym s.2) ∙ e) in
    let low_is : range.0 ≡ least = ap (λ (p : ℕ × List ℕ). p.0) here in
    let rest_is : s.1 ≡ rest = ap (λ (p : ℕ × List ℕ). p.1) here in
    let ranges = ranges_are greatest range [] bytes s in
    let bounds : (range.0, range.1) ≡ (least, greatest) =
    ap (λ (p : ℕ). (p, range.1)) low_is ∙ ap (λ (q : ℕ). (least, q)) s.3 in
    Last (sym rest_is ∙ s.6) (ranges ∙ ap (λ (r : ℕ × ℕ). r ∷ []) bounds)
first_in greatest range (next ∷ ranges) bytes least rest fits s e =
    let v : Encodes (greatest - range.0) s.0 = subst (λ (k : ℕ). Encodes (k - range.0) s.0) s.3 s.5 in
    let le : range.0 ≤ greatest = subst (λ (k : ℕ). range.0 ≤ k) s.3 s.4 in
    let here : (range.0, s.1) ≡ (least, rest) =
    ok_is (range.0, s.1) (least, rest) (sym (block_again greatest range.0 s.0 s.1 le v) ∙ ap (block_at greatest) (sym s.2) ∙ e) in
    let low_is : range.0 ≡ least = ap (λ (p : ℕ × List ℕ). p.0) here in
    let rest_is : s.1 ≡ rest = ap (λ (p : ℕ × List ℕ). p.1) here in
    let b = s.6 in
    let others = b.1 ++ b.2 in
    let gap : gap_at range.0 s.1 ≡ Ok (next.1, others) =
    ap (gap_at range.0) b.3 ∙ gap_again range.0 next.1 b.0 others b.5 b.6 in
    let blocks : AreBlocks next.1 (next ∷ ranges) others = (b.1, b.2, refl, refl, b.4, b.7, b.8) in
    let all = ranges_are greatest range (next ∷ ranges) bytes s in
    let later = ranges_are next.1 next ranges others blocks in
    let whole : after_blocks (length ranges) next.1 others ≡ Ok [] =
    ap (after_blocks (length ranges) next.1) (sym (append-nil others))
    ∙ ranges_again next.1 next ranges others [] blocks in
    let count : length (ranges_of next.1 others) - 1 ≡ length ranges = omega (arith, ap length later) in
    let bounds : (range.0, range.1) ≡ (least, greatest) =
    ap (λ (p : ℕ). (p, range.1)) low_is ∙ ap (λ (q : ℕ). (least, q)) s.3 in
    Next next.1 others (subst (λ (p : ℕ × List ℕ). gap_at p.0 p.1 ≡ Ok (next.1, others)) here gap)
    (ap (λ (k : ℕ). after_blocks k next.1 others) count ∙ whole)
    (omega (arith, length-append b.1 b.2, varint_some (next.1 - next.0) b.1 b.7))
    (all ∙ ap (λ (r : ℕ × ℕ). r ∷ next ∷ ranges) bounds ∙ ap (λ (l : List (ℕ × ℕ)). (least, greatest) ∷ l) (sym later))

pub first_of : (greatest : ℕ) (bytes : List ℕ) (least : ℕ) (rest : List ℕ) → AreBytes bytes → IsBlocks greatest bytes
    → block_at greatest bytes ≡ Ok (least, rest) → FirstOf greatest bytes least rest
first_of greatest bytes least rest fits valid e =
    let b = blocks_of greatest bytes fits valid in first_in greatest b.range b.ranges bytes least rest fits b.blocks e

-- blocks begin with a block
pub has_first : (greatest : ℕ) (bytes : List ℕ) (e : Fault) → AreBytes bytes → IsBlocks greatest bytes
    → block_at greatest bytes ≡ Err e → ⊥
has_first greatest bytes e fits valid h =
    let b = blocks_of greatest bytes fits valid in no_first greatest (b.range ∷ b.ranges) bytes e h b.blocks

-- ---- the steps of an iterator over ranges

pub zero_of : (n : ℕ) → true ≡ eqb n 0 → n ≡ 0
zero_of n e = grind (arith, nat_tests)

pub some_of : (n : ℕ) → false ≡ eqb n 0 → 0 < n
some_of n e = grind (arith, nat_tests)

pub is_blocks : (greatest : ℕ) (bytes : List ℕ) → 0 < length bytes → blocks_left greatest bytes ≡ Ok []
    → IsBlocks greatest bytes
is_blocks greatest [] some e = absurd (omega (arith, some))
is_blocks greatest (b ∷ bytes) some e = e

pub are_left : (greatest : ℕ) (bytes : List ℕ) → IsBlocks greatest bytes → blocks_left greatest bytes ≡ Ok []
are_left greatest [] valid = refl
are_left greatest (b ∷ bytes) valid = valid

pub nothing_is : (bytes : List ℕ) → length bytes ≡ 0 → bytes ≡ []
nothing_is [] e = refl
nothing_is (b ∷ bytes) e = absurd (omega (arith, e))

pub none_left : (greatest : ℕ) (bytes : List ℕ) → length bytes ≡ 0 → blocks_left greatest bytes ≡ Ok []
none_left greatest bytes e = ap (blocks_left greatest) (nothing_is bytes e)

no_ranges : (greatest : ℕ) → ranges_of greatest [] ≡ []
unfolding ranges_of block_at varint_at number_at
no_ranges greatest = refl

pub no_ranges_left : (greatest : ℕ) (bytes : List ℕ) → length bytes ≡ 0 → ranges_of greatest bytes ≡ []
no_ranges_left greatest bytes e = ap (ranges_of greatest) (nothing_is bytes e) ∙ no_ranges greatest

no_gap : (low : ℕ) (x : ℕ × List ℕ) (bytes : List ℕ) → length bytes ≡ 0 → gap_at low bytes ≡ Ok x → ⊥
unfolding gap_at varint_at number_at
no_gap low x [] e h = cc
no_gap low x (b ∷ bytes) e h = omega (arith, e)

pub first_is_last : (greatest : ℕ) (bytes : List ℕ) (least : ℕ) (rest : List ℕ) → FirstOf greatest bytes least rest
    → length rest ≡ 0 → ranges_of greatest bytes ≡ (least, greatest) ∷ ranges_of 0 rest
first_is_last greatest bytes least rest (Last none ranges) e =
    ranges ∙ ap (λ (l : List (ℕ × ℕ)). (least, greatest) ∷ l) (sym (no_ranges_left 0 rest e))
first_is_last greatest bytes least rest (Next next others gap valid some ranges) e =
    absurd (no_gap least (next, others) rest e gap)

pub first_and_next : (greatest : ℕ) (bytes : List ℕ) (least : ℕ) (rest : List ℕ) (x : ℕ × List ℕ)
    → FirstOf greatest bytes least rest → gap_at least rest ≡ Ok x
    → (ranges_of greatest bytes ≡ (least, greatest) ∷ ranges_of x.0 x.1) × IsBlocks x.0 x.1
first_and_next greatest bytes least rest x (Last none ranges) e = absurd (no_gap least x rest (ap length none) e)
first_and_next greatest bytes least rest x (Next next others gap valid some ranges) e =
    subst (λ (p : ℕ × List ℕ). (ranges_of greatest bytes ≡ (least, greatest) ∷ ranges_of p.0 p.1) × IsBlocks p.0 p.1)
    (ok_is (next, others) x (sym gap ∙ e)) (ranges, valid)

pub has_next : (greatest : ℕ) (bytes : List ℕ) (least : ℕ) (rest : List ℕ) (e : Fault)
    → FirstOf greatest bytes least rest → 0 < length rest → gap_at least rest ≡ Err e → ⊥
has_next greatest bytes least rest e (Last none ranges) some h = absurd (omega (arith, ap length none, some))
has_next greatest bytes least rest e (Next next others gap valid more ranges) some h = ok_is_not_err (sym gap ∙ h)
