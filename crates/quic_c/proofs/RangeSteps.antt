-- One range of an ACK after the other.
use Rattle.std.proofs.Common.{◌≡◌, ℕ, ◌+◌, ◌-◌, ◌≤◌, ◌<◌, ◌^◌, List, [], ◌∷◌, ◌++◌, length, drop, refl, sym, ap, subst, ◌∙◌, append_assoc, inl, inr, arith, nat_lt, true, false, zero, suc}
use Rattle.std.specs.Prelude.{◌⊎◌, ◌==◌}
use Rattle.std.proofs.lemmas.List.{length-append, length-drop}
use Rattle.std.proofs.lemmas.Bool.Decides.{nat_tests}
use Rattle.quic_base.specs.Varint.{Encodes}
use Rattle.quic_frame_fields.specs.declared.frame.fault.Fault.{Fault}
use Rattle.quic_frame_fields.specs.declared.frame.fault.Fault.TheVariants.{UnexpectedEnd}
use Rattle.quic_frame_fields.specs.Field.{AreBelow, NoNumber, NumberStops}
use Rattle.quic_frame_fields.specs.FirstRange.{AreLeft, BeginsWithRange, RangeStops}
use Rattle.quic_frame_fields.specs.Reading.{varint_at, block_at, gap_at}
use Rattle.quic_frame_fields.proofs.Steps.{ok_is}
use Rattle.quic_frame_fields.proofs.Blocks.{block_again, gap_again}
use Rattle.quic_frame_fields.proofs.Varints.{varint_again, varint_some}
use Rattle.quic_c_words.specs.declared.words.CRange.{CRange}
use Rattle.quic_c_words.specs.declared.words.CRangeIter.{CRangeIter}
use Rattle.quic_c.specs.Ranges.{CutRange, GivesRange, HasLeft, LacksRange, TakesRange}
use Rattle.quic_c.proofs.Places.{end_of_end}

-- ---- a range above others

pub more_taken : (greatest more : ℕ) (bytes : List ℕ) (least next : ℕ) (rest : List ℕ) → 0 < more → 0 < length rest
    → BeginsWithRange greatest bytes least next rest → TakesRange greatest more bytes least next rest
more_taken greatest more bytes least next rest some left s = record {
  block = s.block;
  gap = s.gap;
  parts = s.parts;
  ordered = s.ordered;
  first = s.first;
  last = λ none. absurd (omega (arith, some, none));
  below = λ _. elim s.below [
    | inl none ↦ absurd (omega (arith, left, ap length none.0, length-append s.gap rest))
    | inr gap ↦ (gap.0, gap.1, left)
  ];
}

gap_cut : (low : ℕ) (bytes : List ℕ) (reason : Fault)
    → NumberStops bytes reason (λ gap. nat_lt low (gap + 2)) (λ gap others. ⊥)
    → NumberStops bytes reason (λ gap. nat_lt low (gap + 2)) (λ gap others. (others ≡ []) × (reason ≡ UnexpectedEnd))
gap_cut low bytes reason s = elim s [
  | inl none ↦ inl none
  | inr others ↦ elim others [
    | inl large ↦ inr (inl large)
    | inr second ↦ absurd second.5.1
  ]
]

pub cut_by : (greatest more : ℕ) (bytes : List ℕ) (reason : Fault) → 0 < more → RangeStops greatest bytes reason
    → CutRange greatest more bytes reason
cut_by greatest more bytes reason some stops = elim stops [
  | inl first ↦ inl first
  | inr others ↦ elim others [
    | inl large ↦ inr (inl large)
    | inr s ↦ inr (inr (s.0, s.1, s.2, s.3, s.4, (s.5.0, (some, gap_cut (greatest - s.0) s.2 reason s.5.1.1))))
  ]
]

no_number : NoNumber []
no_number n front back e is =
    absurd (omega (arith, ap length e, length-append front back, varint_some n front is))

pub none_of : (n : ℕ) → true ≡ (n == 0) → n ≡ 0
none_of n e = grind (arith, nat_tests)

nil_of : (bytes : List ℕ) → length bytes ≡ 0 → bytes ≡ []
nil_of [] e = refl
nil_of (b ∷ bytes) e = absurd (omega (arith, e))

gap_at_end : (low next : ℕ) (gap rest : List ℕ) → length rest ≡ 0
    → ((gap ++ rest ≡ []) × (next ≡ 0)) ⊎ ((next + 2 ≤ low) × Encodes (low - (next + 2)) gap)
    → NumberStops (gap ++ rest) UnexpectedEnd (λ n. nat_lt low (n + 2))
    (λ n others. (others ≡ []) × (◌≡◌ {A = Fault} UnexpectedEnd UnexpectedEnd))
gap_at_end low next gap rest none (inl nothing) = inl (subst NoNumber (sym nothing.0) no_number, refl)
gap_at_end low next gap rest none (inr here) =
    let le = here.0 in
    let fits : nat_lt low (low - (next + 2) + 2) ≡ false = grind (arith, nat_tests) in
    inr (inr (low - (next + 2), gap, rest, refl, here.1, (fits, (nil_of rest none, refl))))

pub cut_at_end : (greatest more : ℕ) (bytes : List ℕ) (least next : ℕ) (rest : List ℕ) → 0 < more
    → length rest ≡ 0 → BeginsWithRange greatest bytes least next rest → CutRange greatest more bytes UnexpectedEnd
cut_at_end greatest more bytes least next rest some none s =
    let ordered = s.ordered in
    let fits : nat_lt greatest (greatest - least) ≡ false = grind (arith, nat_tests) in
    let low : least ≡ greatest - (greatest - least) = omega arith in
    let end = gap_at_end least next s.gap rest none s.below in
    inr (inr (
      greatest - least,
      s.block,
      s.gap ++ rest,
      s.parts,
      s.first,
      (
        fits,
        (
          some,
          subst (λ (k : ℕ). NumberStops (s.gap ++ rest) UnexpectedEnd (λ n. nat_lt k (n + 2))
              (λ n others. (others ≡ []) × (◌≡◌ {A = Fault} UnexpectedEnd UnexpectedEnd))) low end,
        ),
      ),
    ))

-- ---- the ranges that are left

-- the first range that is left, as bytes, and the bytes of the others
record First (greatest : ℕ) (range : ℕ × ℕ) (ranges : List (ℕ × ℕ)) (bytes behind : List ℕ) : Type 0 where
  block : List ℕ
  others : List ℕ
  parts : bytes ≡ block ++ (others ++ behind)
  greater : range.1 ≡ greatest
  ordered : range.0 ≤ greatest
  encoded : Encodes (greatest - range.0) block
  below : AreBelow range.0 ranges others

first_of : (greatest : ℕ) (range : ℕ × ℕ) (ranges : List (ℕ × ℕ)) (bytes blocks behind : List ℕ)
    → bytes ≡ blocks ++ behind → AreLeft greatest (range ∷ ranges) blocks → First greatest range ranges bytes behind
first_of greatest range ranges bytes blocks behind parts s = record {
  block = s.0;
  others = s.1;
  parts = parts ∙ ap (λ (l : List ℕ). l ++ behind) s.2 ∙ append_assoc s.0 s.1 behind;
  greater = s.3;
  ordered = subst (λ (k : ℕ). range.0 ≤ k) s.3 s.4;
  encoded = subst (λ (k : ℕ). Encodes (k - range.0) s.0) s.3 s.5;
  below = s.6;
}

-- what is left after the first range, if the bytes begin with it
others_left : (greatest more : ℕ) (bytes : List ℕ) (least next : ℕ) (rest : List ℕ) (range : ℕ × ℕ)
    (ranges : List (ℕ × ℕ)) (behind : List ℕ) → more ≡ length ranges → TakesRange greatest more bytes least next rest
    → First greatest range ranges bytes behind
    → (range ≡ (least, greatest)) × ((blocks : List ℕ) × (rest ≡ blocks ++ behind) × AreLeft next ranges blocks)
others_left greatest more bytes least next rest range ranges behind count t f =
    let same : (range.0, f.others ++ behind) ≡ (least, t.gap ++ rest) =
    ok_is (range.0, f.others ++ behind) (least, t.gap ++ rest)
    (sym (block_again greatest range.0 f.block (f.others ++ behind) f.ordered f.encoded)
    ∙ ap (block_at greatest) (sym f.parts ∙ t.parts)
    ∙ block_again greatest least t.block (t.gap ++ rest) t.ordered t.first) in
    let low : range.0 ≡ least = ap (λ (p : ℕ × List ℕ). p.0) same in
    let bounds : (range.0, range.1) ≡ (least, greatest) =
    ap (λ (p : ℕ). (p, range.1)) low ∙ ap (λ (q : ℕ). (least, q)) f.greater in
    (bounds, by_ranges ranges count (ap (λ (p : ℕ × List ℕ). p.1) same) (subst (λ (k : ℕ). AreBelow k ranges f.others) low f.below))
  where
    by_ranges : (ranges : List (ℕ × ℕ)) → more ≡ length ranges → f.others ++ behind ≡ t.gap ++ rest
        → AreBelow least ranges f.others
        → (blocks : List ℕ) × (rest ≡ blocks ++ behind) × AreLeft next ranges blocks
    by_ranges [] count e s =
        let end = t.last count in
        ([], sym (ap (λ (l : List ℕ). l ++ rest) end.0) ∙ sym e ∙ ap (λ (l : List ℕ). l ++ behind) s, refl)
    by_ranges (below ∷ ranges) count e s =
        let g = t.below (omega (arith, count)) in
        let here : f.others ++ behind ≡ s.0 ++ ((s.1 ++ s.2) ++ behind) =
        ap (λ (l : List ℕ). l ++ behind) s.3 ∙ append_assoc s.0 (s.1 ++ s.2) behind in
        let same : (below.1, (s.1 ++ s.2) ++ behind) ≡ (next, rest) =
        ok_is (below.1, (s.1 ++ s.2) ++ behind) (next, rest)
        (sym (gap_again least below.1 s.0 ((s.1 ++ s.2) ++ behind) s.5 s.6) ∙ ap (gap_at least) (sym here ∙ e)
        ∙ gap_again least next t.gap rest g.0 g.1) in (
          s.1 ++ s.2,
          sym (ap (λ (p : ℕ × List ℕ). p.1) same),
          (s.1, s.2, refl, ap (λ (p : ℕ × List ℕ). p.0) same, s.4, s.7, s.8),
        )

-- a number at the front is one only
same_number : (n m : ℕ) (front back header left : List ℕ) → Encodes n front → Encodes m header
    → front ++ back ≡ header ++ left → (n ≡ m) × (back ≡ left)
same_number n m front back header left one other e =
    let same : ◌≡◌ {A = ℕ × List ℕ} (n, back) (m, left) =
    ok_is (n, back) (m, left)
    (sym (varint_again n front back one) ∙ ap varint_at e ∙ varint_again m header left other) in
    (ap (λ (p : ℕ × List ℕ). p.0) same, ap (λ (p : ℕ × List ℕ). p.1) same)

not_large : (n m : ℕ) → m ≤ n → nat_lt n m ≡ true → ⊥
not_large n m le large = absurd (grind (arith, nat_tests))

-- if ranges are left below one, the bytes after its block are no reason to stop
gap_not_cut : (low : ℕ) (bytes : List ℕ) (reason : Fault) (next : ℕ × ℕ) (ranges : List (ℕ × ℕ))
    (others behind : List ℕ) → AreBelow low (next ∷ ranges) others → bytes ≡ others ++ behind
    → NumberStops bytes reason (λ gap. nat_lt low (gap + 2)) (λ gap others. (others ≡ []) × (reason ≡ UnexpectedEnd))
    → ⊥
gap_not_cut low bytes reason next ranges others behind s e stops =
    let here : bytes ≡ s.0 ++ ((s.1 ++ s.2) ++ behind) =
    e ∙ ap (λ (l : List ℕ). l ++ behind) s.3 ∙ append_assoc s.0 (s.1 ++ s.2) behind in
    elim stops [
      | inl none ↦ none.0 (low - (next.1 + 2)) s.0 ((s.1 ++ s.2) ++ behind) here s.6
      | inr more ↦ elim more [
        | inl large ↦
            let same =
            same_number large.0 (low - (next.1 + 2)) large.1 large.2 s.0 ((s.1 ++ s.2) ++ behind) large.4 s.6
            (sym large.3 ∙ here) in
            not_large low (large.0 + 2) (omega (arith, same.0, s.5)) large.5.0
        | inr end ↦
            let same =
            same_number end.0 (low - (next.1 + 2)) end.1 end.2 s.0 ((s.1 ++ s.2) ++ behind) end.4 s.6
            (sym end.3 ∙ here) in
            absurd (omega (
              arith,
              ap length (sym end.5.1.0 ∙ same.1),
              length-append (s.1 ++ s.2) behind,
              length-append s.1 s.2,
              varint_some (next.1 - next.0) s.1 s.7,
            ))
      ]
    ]

behind_not_cut : (low more : ℕ) (bytes : List ℕ) (reason : Fault) (ranges : List (ℕ × ℕ)) (others behind : List ℕ)
    → more ≡ length ranges → 0 < more → AreBelow low ranges others → bytes ≡ others ++ behind
    → NumberStops bytes reason (λ gap. nat_lt low (gap + 2)) (λ gap others. (others ≡ []) × (reason ≡ UnexpectedEnd))
    → ⊥
behind_not_cut low more bytes reason [] others behind count some s e stops = absurd (omega (arith, some, count))
behind_not_cut low more bytes reason (next ∷ ranges) others behind count some s e stops =
    gap_not_cut low bytes reason next ranges others behind s e stops

-- if ranges are left, the bytes begin with the first
not_cut : (greatest more : ℕ) (bytes : List ℕ) (reason : Fault) (range : ℕ × ℕ) (ranges : List (ℕ × ℕ))
    (behind : List ℕ) → more ≡ length ranges → First greatest range ranges bytes behind
    → CutRange greatest more bytes reason → ⊥
not_cut greatest more bytes reason range ranges behind count f cut = elim cut [
  | inl none ↦ none.0 (greatest - range.0) f.block (f.others ++ behind) f.parts f.encoded
  | inr others ↦ elim others [
    | inl large ↦
        let same =
        same_number large.0 (greatest - range.0) large.1 large.2 f.block (f.others ++ behind) large.4 f.encoded
        (sym large.3 ∙ f.parts) in
        not_large greatest large.0 (omega (arith, same.0)) large.5.0
    | inr s ↦
        let same =
        same_number s.0 (greatest - range.0) s.1 s.2 f.block (f.others ++ behind) s.4 f.encoded (sym s.3 ∙ f.parts) in
        let low : range.0 ≡ greatest - s.0 = omega (arith, same.0, f.ordered) in
        behind_not_cut (greatest - s.0) more s.2 reason ranges f.others behind count s.5.1.0
        (subst (λ (k : ℕ). AreBelow k ranges f.others) low f.below) same.1 s.5.1.1
  ]
]

-- ---- the words of an iterator

abbrev pub iter_at : ℕ → ℕ → ℕ → CRangeIter
iter_at offset left largest = record { offset = offset; left = left; largest = largest }

abbrev pub range_words : ℕ → ℕ → CRange
range_words start end = record { start = start; end = end }

pub next_within : (greatest more : ℕ) (bytes : List ℕ) (least next : ℕ) (rest : List ℕ)
    → TakesRange greatest more bytes least next rest → next ≤ greatest
next_within greatest zero bytes least next rest t = omega (arith, (t.last refl).1)
next_within greatest (suc more) bytes least next rest t = omega (arith, (t.below (omega arith)).0, t.ordered)

first_and_others : (payload : List ℕ) (offset left largest least next : ℕ) (rest : List ℕ) → 0 < left
    → largest < 2 ^ 62 → length rest ≤ length payload → drop (length payload - length rest) payload ≡ rest
    → TakesRange largest (left - 1) (drop offset payload) least next rest
    → (ranges : List (ℕ × ℕ)) → HasLeft (iter_at offset left largest) payload ranges
    → (others : List (ℕ × ℕ)) × (ranges ≡ (least, largest) ∷ others)
    × HasLeft (iter_at (length payload - length rest) (left - 1) next) payload others
first_and_others payload offset left largest least next rest some small short here t [] h =
    absurd (omega (arith, some, h.count))
first_and_others payload offset left largest least next rest some small short here t (range ∷ ranges) h =
    let count : left - 1 ≡ length ranges = omega (arith, h.count) in
    let s =
    others_left largest (left - 1) (drop offset payload) least next rest range ranges h.behind count t
    (first_of largest range ranges (drop offset payload) h.blocks h.behind h.parts h.encoded) in (
      ranges,
      ap (λ (r : ℕ × ℕ). r ∷ ranges) s.0,
      record {
        count = count;
        within = omega arith;
        small = omega (arith, small, next_within largest (left - 1) (drop offset payload) least next rest t);
        blocks = s.1.0;
        behind = h.behind;
        parts = here ∙ s.1.1;
        encoded = s.1.2;
      },
    )

-- what a range at an offset means for the words
pub range_given : (payload : List ℕ) (offset left largest least next : ℕ) (rest : List ℕ) → offset ≤ length payload
    → 0 < left → largest < 2 ^ 62 → TakesRange largest (left - 1) (drop offset payload) least next rest
    → length rest < length (drop offset payload)
    → drop (length (drop offset payload) - length rest) (drop offset payload) ≡ rest
    → GivesRange (iter_at offset left largest) payload (iter_at (length payload - length rest) (left - 1) next)
    (range_words least (largest + 1))
range_given payload offset left largest least next rest within some small t shorter tail =
    let here = end_of_end payload offset rest within (omega arith) tail in
    let len = length-drop offset payload in
    record {
      counted = omega arith;
      small = small;
      above = refl;
      begins = rw here t;
      further = omega arith;
      within = omega arith;
      ranges = first_and_others payload offset left largest least next rest some small (omega arith) here t;
    }

none_left : (it : CRangeIter) (payload : List ℕ) (reason : Fault) → 0 < it.left
    → CutRange it.largest (it.left - 1) (drop it.offset payload) reason
    → (ranges : List (ℕ × ℕ)) → HasLeft it payload ranges → ⊥
none_left it payload reason some cut [] h = absurd (omega (arith, some, h.count))
none_left it payload reason some cut (range ∷ ranges) h =
    not_cut it.largest (it.left - 1) (drop it.offset payload) reason range ranges h.behind (omega (arith, h.count))
    (first_of it.largest range ranges (drop it.offset payload) h.blocks h.behind h.parts h.encoded) cut

pub none_there : (it : CRangeIter) (payload : List ℕ) (reason : Fault) → 0 < it.left
    → CutRange it.largest (it.left - 1) (drop it.offset payload) reason → LacksRange it payload
none_there it payload reason some cut =
    record { some = some; why = inr (inr (reason, cut)); none = none_left it payload reason some cut }
