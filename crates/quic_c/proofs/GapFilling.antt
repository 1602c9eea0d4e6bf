-- Ranges of an ACK that are filled as gap and length, one after the other.
use Rattle.std.proofs.Common.{◌≡◌, ℕ, ◌+◌, ◌-◌, ◌<◌, ◌≤◌, Bool, true, false, List, [], ◌∷◌, ◌++◌, length, take, drop, set, refl, sym, ap, subst, ◌∙◌, append_assoc, arith}
use Rattle.std.specs.Prelude.{Ok, Err, IsTrue, ◌↔◌, ◌==◌, nat_lt, if◌then◌else◌}
use Rattle.std.proofs.lemmas.List.{take_more_set, drop-set-lt, take_at, length-append}
use Rattle.std.proofs.Math.ListN.{length-set}
use Rattle.std.proofs.lemmas.Grind.{drop_more_same}
use Rattle.std.proofs.lemmas.Bool.Decides.{nat_tests}
use Rattle.quic_base.specs.Number.{AreBytes}
use Rattle.quic_frame_fields.specs.declared.frame.fault.Fault.{Fault}
use Rattle.quic_frame_fields.specs.Field.{AreBelow, AreBlocks}
use Rattle.quic_frame_fields.specs.Reading.{varint_at}
use Rattle.quic_frame_fields.proofs.Steps.{ok_is, ok_is_not_err}
use Rattle.quic_frame_fields.specs.declared.frame.ack.Ack.{Ack}
use Rattle.quic_frame_fields.specs.Acks.{ranges_acked}
use Rattle.quic_frame_fields.proofs.Blocks.{acked}
use Rattle.quic_frame_fields.proofs.Varints.{varint_again, varint_some}
use Rattle.quic_c_words.specs.declared.words.CGap.{CGap}
use Rattle.quic_c_words.specs.Gaps.{gap_of, gaps_below}
use Rattle.quic_c.specs.Front.{FillsGaps, more_flag}

-- the least number of the last range
abbrev pub lowest : ℕ → List (ℕ × ℕ) → ℕ
lowest low [] = low
lowest low (range ∷ ranges) = lowest range.0 ranges

gaps-append : (low : ℕ) (done : List (ℕ × ℕ)) (range : ℕ × ℕ)
    → gaps_below low (done ++ range ∷ []) ≡ gaps_below low done ++ gap_of (lowest low done) range ∷ []
gaps-append low [] range = refl
gaps-append low (first ∷ done) range = ap (λ (l : List CGap). gap_of low first ∷ l) (gaps-append first.0 done range)

lowest-append : (low : ℕ) (done : List (ℕ × ℕ)) (range : ℕ × ℕ) → lowest low (done ++ range ∷ []) ≡ range.0
lowest-append low [] range = refl
lowest-append low (first ∷ done) range = lowest-append first.0 done range

-- So many entries are filled, up to the blocks that are left.
pub record GapFilling (least : ℕ) (ranges : List (ℕ × ℕ)) (before : List CGap) (left : List ℕ) (after : List CGap)
    (count : ℕ) : Type 0 where
  pub few : count ≤ length after
  pub all : length after ≡ length before
  pub done : List (ℕ × ℕ)
  pub others : List (ℕ × ℕ)
  pub parts : ranges ≡ done ++ others
  pub encoded : AreBelow (lowest least done) others left
  pub counted : length done ≡ count
  pub filled : take count after ≡ gaps_below least done
  pub kept : drop count after ≡ drop count before

pub gaps_begin : (least : ℕ) (ranges : List (ℕ × ℕ)) (blocks : List ℕ) (before : List CGap)
    → AreBelow least ranges blocks → GapFilling least ranges before blocks before 0
gaps_begin least ranges blocks before encoded = record {
  few = omega arith;
  all = refl;
  done = [];
  others = ranges;
  parts = refl;
  encoded = encoded;
  counted = refl;
  filled = refl;
  kept = refl;
}

-- The gap and the block at the front, and what is left after them.
pub record NextGap (low : ℕ) (others : List (ℕ × ℕ)) (left : List ℕ) : Type 0 where
  pub range : ℕ × ℕ
  pub ranges : List (ℕ × ℕ)
  pub are : others ≡ range ∷ ranges
  pub behind : List ℕ
  pub rest : List ℕ
  pub gap : varint_at left ≡ Ok (low - (range.1 + 2), behind)
  pub len : varint_at behind ≡ Ok (range.1 - range.0, rest)
  pub encoded : AreBelow range.0 ranges rest

pub next_gap : (low : ℕ) (others : List (ℕ × ℕ)) (left : List ℕ) → 0 < length left → AreBelow low others left
    → NextGap low others left
next_gap low [] left some s = absurd (omega (arith, some, ap length s))
next_gap low (range ∷ ranges) left some s = record {
  range = range;
  ranges = ranges;
  are = refl;
  behind = s.1 ++ s.2;
  rest = s.2;
  gap = ap varint_at s.3 ∙ varint_again (low - (range.1 + 2)) s.0 (s.1 ++ s.2) s.6;
  len = varint_again (range.1 - range.0) s.1 s.2 s.7;
  encoded = s.8;
}

pub gaps_go_on : (least : ℕ) (ranges : List (ℕ × ℕ)) (before : List CGap) (left : List ℕ) (after : List CGap)
    (count gap len : ℕ) (behind rest : List ℕ)
    → GapFilling least ranges before left after count → count < length after → 0 < length left
    → varint_at left ≡ Ok (gap, behind) → varint_at behind ≡ Ok (len, rest)
    → GapFilling least ranges before rest (set after count (record { gap = gap; len = len })) (count + 1)
gaps_go_on least ranges before left after count gap len behind rest s room some one two =
    let n = next_gap (lowest least s.done) s.others left some s.encoded in
    let first : ◌≡◌ {A = ℕ × List ℕ} (lowest least s.done - (n.range.1 + 2), n.behind) (gap, behind) =
    ok_is (lowest least s.done - (n.range.1 + 2), n.behind) (gap, behind) (sym n.gap ∙ one) in
    let again : varint_at n.behind ≡ Ok (len, rest) = ap varint_at (ap (λ (x : ℕ × List ℕ). x.1) first) ∙ two in
    let second : ◌≡◌ {A = ℕ × List ℕ} (n.range.1 - n.range.0, n.rest) (len, rest) =
    ok_is (n.range.1 - n.range.0, n.rest) (len, rest) (sym n.len ∙ again) in
    let entry : CGap = record { gap = gap; len = len } in
    let is : gap_of (lowest least s.done) n.range ≡ entry =
    ap (λ (x : ℕ). record { gap = x; len = n.range.1 - n.range.0 }) (ap (λ (x : ℕ × List ℕ). x.0) first)
    ∙ ap (λ (x : ℕ). record { gap = gap; len = x }) (ap (λ (x : ℕ × List ℕ). x.0) second) in
    let front : take (count + 1) (set after count entry) ≡ take count after ++ entry ∷ [] =
    take_more_set after count entry room in
    let below : AreBelow n.range.0 n.ranges rest =
    subst (AreBelow n.range.0 n.ranges) (ap (λ (x : ℕ × List ℕ). x.1) second) n.encoded in
    record {
      few = simp length-set (omega arith);
      all = simp length-set s.all;
      done = s.done ++ n.range ∷ [];
      others = n.ranges;
      parts = s.parts ∙ ap (λ (l : List (ℕ × ℕ)). s.done ++ l) n.are ∙ sym (append_assoc s.done (n.range ∷ []) n.ranges);
      encoded = subst (λ (k : ℕ). AreBelow k n.ranges rest) (sym (lowest-append least s.done n.range)) below;
      counted = length-append s.done (n.range ∷ []) ∙ ap (λ (k : ℕ). k + 1) s.counted;
      filled = front ∙ ap (λ (l : List CGap). l ++ entry ∷ []) s.filled
          ∙ ap (λ (g : CGap). gaps_below least s.done ++ g ∷ []) (sym is) ∙ sym (gaps-append least s.done n.range);
      kept = drop-set-lt (count + 1) after count entry (omega arith) ∙ drop_more_same after before count s.kept;
    }

-- nothing is left exactly if no range is
none_left : (low : ℕ) (others : List (ℕ × ℕ)) (left : List ℕ) → AreBelow low others left → length left ≡ 0
    → length others ≡ 0
none_left low [] left s none = refl
none_left low (range ∷ ranges) left s none =
    let some : 0 < length s.0 = varint_some (low - (range.1 + 2)) s.0 s.6 in
    absurd (omega (arith, none, some, ap length s.3, length-append s.0 (s.1 ++ s.2)))

some_left : (low : ℕ) (others : List (ℕ × ℕ)) (left : List ℕ) → AreBelow low others left → 0 < length left
    → 0 < length others
some_left low [] left s some = absurd (omega (arith, some, ap length s))
some_left low (range ∷ ranges) left s some = omega arith

sizes : (least : ℕ) (ranges : List (ℕ × ℕ)) (before : List CGap) (left : List ℕ) (after : List CGap) (count : ℕ)
    (s : GapFilling least ranges before left after count)
    → length ranges ≡ count + length s.others
sizes least ranges before left after count s =
    ap length s.parts ∙ length-append s.done s.others ∙ ap (λ (k : ℕ). k + length s.others) s.counted

pub all_filled : (least : ℕ) (ranges : List (ℕ × ℕ)) (before : List CGap) (left : List ℕ) (after : List CGap) (count : ℕ)
    → GapFilling least ranges before left after count → length left ≡ 0 → count ≡ length ranges
all_filled least ranges before left after count s none =
    omega (arith, sizes least ranges before left after count s, none_left (lowest least s.done) s.others left s.encoded none)

pub some_unfilled : (least : ℕ) (ranges : List (ℕ × ℕ)) (before : List CGap) (left : List ℕ) (after : List CGap) (count : ℕ)
    → GapFilling least ranges before left after count → 0 < length left → count < length ranges
some_unfilled least ranges before left after count s some =
    omega (arith, sizes least ranges before left after count s, some_left (lowest least s.done) s.others left s.encoded some)

pub gaps_end : (least : ℕ) (ranges : List (ℕ × ℕ)) (before : List CGap) (left : List ℕ) (after : List CGap) (count : ℕ)
    → GapFilling least ranges before left after count
    → (count < length ranges → count ≡ length before) → FillsGaps least ranges before after count
gaps_end least ranges before left after count s full =
    let front : take count ranges ≡ s.done = ap (take count) s.parts ∙ take_at s.done s.others count s.counted in
    record {
      few = rw (← s.all) s.few;
      one_each = omega (arith, sizes least ranges before left after count s);
      filled = s.filled ∙ ap (gaps_below least) (sym front);
      kept = s.kept;
      full = full;
    }

-- no number is cut off if there is a gap or a block
pub gap_is_there : (least : ℕ) (ranges : List (ℕ × ℕ)) (before : List CGap) (left : List ℕ) (after : List CGap) (count : ℕ) (e : Fault)
    → GapFilling least ranges before left after count → 0 < length left
    → varint_at left ≡ Err e → ⊥
gap_is_there least ranges before left after count e s some h =
    let n = next_gap (lowest least s.done) s.others left some s.encoded in
    ok_is_not_err (sym n.gap ∙ h)

pub len_is_there : (least : ℕ) (ranges : List (ℕ × ℕ)) (before : List CGap) (left : List ℕ) (after : List CGap)
    (count gap : ℕ) (behind : List ℕ) (e : Fault)
    → GapFilling least ranges before left after count → 0 < length left
    → varint_at left ≡ Ok (gap, behind) → varint_at behind ≡ Err e → ⊥
len_is_there least ranges before left after count gap behind e s some one h =
    let n = next_gap (lowest least s.done) s.others left some s.encoded in
    let first : ◌≡◌ {A = ℕ × List ℕ} (lowest least s.done - (n.range.1 + 2), n.behind) (gap, behind) =
    ok_is (lowest least s.done - (n.range.1 + 2), n.behind) (gap, behind) (sym n.gap ∙ one) in
    ok_is_not_err (sym n.len ∙ ap varint_at (ap (λ (x : ℕ × List ℕ). x.1) first) ∙ h)

zero_of : (n : ℕ) → true ≡ (n == 0) → n ≡ 0
zero_of n e = grind (arith, nat_tests)

zero_test : (n : ℕ) → n ≡ 0 → true ≡ (n == 0)
zero_test n e = grind (arith, nat_tests)

-- whether all were filled
pub gaps_whole : (least : ℕ) (ranges : List (ℕ × ℕ)) (before : List CGap) (left : List ℕ) (after : List CGap) (count : ℕ) (is_empty : Bool)
    → GapFilling least ranges before left after count
    → is_empty ≡ (length left == 0) → IsTrue is_empty ↔ (count ≡ length ranges)
gaps_whole least ranges before [] after count is_empty s e =
    let all : count ≡ length ranges = all_filled least ranges before [] after count s refl in
    (λ t. all, λ same. e ∙ sym (zero_test 0 refl))
gaps_whole least ranges before (b ∷ left) after count is_empty s e =
    let fewer : count < length ranges = some_unfilled least ranges before (b ∷ left) after count s (omega arith) in
    (λ t. absurd (omega (arith, zero_of (length (b ∷ left)) (sym (sym e ∙ t)))), λ same. absurd (omega (arith, fewer, same)))

-- where no byte is left, no range is
pub gaps_full : (least : ℕ) (ranges : List (ℕ × ℕ)) (before : List CGap) (left : List ℕ) (after : List CGap) (count : ℕ)
    → GapFilling least ranges before left after count → true ≡ (length left == 0) → count < length ranges
    → count ≡ length before
gaps_full least ranges before [] after count s e fewer =
    absurd (omega (arith, fewer, all_filled least ranges before [] after count s refl))
gaps_full least ranges before (b ∷ left) after count s e fewer = absurd (omega (arith, zero_of (length (b ∷ left)) e))

-- ---- flags

below_test : (n m : ℕ) → n < m → true ≡ nat_lt n m
below_test n m lt = grind (arith, nat_tests)

above_test : (n m : ℕ) → n ≡ m → false ≡ nat_lt n m
above_test n m e = grind (arith, nat_tests)

less : (n m : ℕ) → n ≤ m → (n ≡ m → ⊥) → n < m
less n m le other = grind (arith, nat_tests)

pub more_is : (count : ℕ) (ranges : List (ℕ × ℕ)) (is_whole : Bool) (more : ℕ) → count ≤ length ranges
    → IsTrue is_whole ↔ (count ≡ length ranges)
    → more ≡ (if is_whole then 0 else 4) → more ≡ more_flag count ranges
more_is count ranges true more few whole e =
    e ∙ ap (λ (t : Bool). if t then 4 else 0) (above_test count (length ranges) (whole.0 refl))
more_is count ranges false more few whole e =
    let fewer : count < length ranges =
    less count (length ranges) few (λ same. let t : ◌≡◌ {A = Bool} false true = whole.1 same in cc) in
    e ∙ ap (λ (t : Bool). if t then 4 else 0) (below_test count (length ranges) fewer)
