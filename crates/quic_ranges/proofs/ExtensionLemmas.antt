-- A range that extends the last run, or comes after it.
use Rattle.std.proofs.Common.{◌≡◌, ℕ, Bool, ◌+◌, ◌-◌, ◌<◌, ◌≤◌, suc, List, [], ◌∷◌, ◌++◌, length, take, drop, set, get_or, refl, ap, sym, ◌∙◌, subst, arith}
use Rattle.std.specs.declared.ops.Range.{Range}
use Rattle.quic_ranges.specs.Runs.{IsMaximalRuns, IsRunsOf, in_union}
use Rattle.quic_ranges.specs.Places.{ends_below, starts_upto}
use Rattle.quic_ranges.specs.Splices.{Splices, BecomesRunsOf}
use Rattle.quic_ranges.specs.declared.range_set.sorted_runs.Substitute.TheVariants.{One}
use Rattle.quic_ranges.proofs.RunsLemmas.{range, IsRunsOf-unique}
use Rattle.quic_ranges.proofs.PlacesLemmas.{ends_below-all, ends_below-others, ends_below-starts_upto, starts_upto-above, starts_upto-length, Splices-plain, Splices-touching, IsRunsOf-inside}
use Rattle.quic_ranges.proofs.SpliceLemmas.{set-one}

-- if the last run ends below x, all do
ends_below-whole : (rs : List (Range ℕ)) (x : ℕ) (d : Range ℕ) → IsMaximalRuns rs
    → (0 < length rs → (get_or rs (length rs - 1) d).end < x) → length rs ≡ ends_below rs x
ends_below-whole [] x d h below = refl
ends_below-whole (r ∷ rs) x d h below =
    let last : (get_or (r ∷ rs) (length (r ∷ rs) - 1) d).end < x = below (omega arith) in
    let count : length (r ∷ rs) ≡ suc (length (r ∷ rs) - 1) = omega arith in
    count ∙ sym (ends_below-all 0 x (length (r ∷ rs) - 1) d (r ∷ rs) h count last)

-- what is before all elements, and after them
whole : {X : Type 0} (xs : List X) (v : X) → take (length xs) xs ++ v ∷ drop (length xs) xs ≡ xs ++ v ∷ []
whole [] v = refl
whole (x ∷ xs) v = ap (λ l. x ∷ l) (whole xs v)

-- a range after all runs becomes a new run
pub BecomesRunsOf-behind : (rs : List (Range ℕ)) (x d : Range ℕ) → IsMaximalRuns rs → x.start < x.end
    → (0 < length rs → (get_or rs (length rs - 1) d).end < x.start)
    → BecomesRunsOf (in_union rs x) rs (rs ++ x ∷ [])
BecomesRunsOf-behind rs x d h lt below =
    let from : length rs ≡ ends_below rs x.start = ends_below-whole rs x.start d h below in
    let order : ends_below rs x.start ≤ starts_upto rs x.end = ends_below-starts_upto 0 x.start x.end rs h lt in
    let most : starts_upto rs x.end ≤ length rs = starts_upto-length x.end rs in
    let to : length rs ≡ starts_upto rs x.end = omega arith in
    let splices : Splices (in_union rs x) rs (record { from = length rs; to = length rs; by = One (range x.start x.end) }) =
    Splices-plain rs x (length rs) (length rs) h lt from to (omega arith) in
    record { runs = subst (IsRunsOf (in_union rs x)) (whole rs x) splices.runs; differs = splices.differs }

-- the last run grows by a range that begins in it or at its end
pub BecomesRunsOf-grown : (rs : List (Range ℕ)) (x d : Range ℕ) → IsMaximalRuns rs → 0 < length rs
    → (get_or rs (length rs - 1) d).start ≤ x.start → x.start ≤ (get_or rs (length rs - 1) d).end
    → (get_or rs (length rs - 1) d).end < x.end
    → BecomesRunsOf (in_union rs x) rs (set rs (length rs - 1) (range (get_or rs (length rs - 1) d).start x.end))
BecomesRunsOf-grown rs x d h some lo hi grows =
    let count : length rs ≡ suc (length rs - 1) = omega arith in
    let from : length rs - 1 ≡ ends_below rs x.start =
    sym (ends_below-others 0 x.start (length rs - 1) d rs h count lo hi) in
    let above : length rs - 1 < starts_upto rs x.end =
    starts_upto-above 0 (length rs - 1) x.end d rs h (omega arith) (omega arith) in
    let most : starts_upto rs x.end ≤ length rs = starts_upto-length x.end rs in
    let to : length rs ≡ starts_upto rs x.end = omega arith in
    let splices : Splices (in_union rs x) rs (record {
      from = length rs - 1;
      to = length rs;
      by = One (range (get_or rs (length rs - 1) d).start x.end);
    }) =
    Splices-touching rs x d (length rs - 1) (length rs) (get_or rs (length rs - 1) d).start x.end h (omega arith) from
    to (omega arith) (omega arith) (omega arith) (λ _ le. absurd (omega arith)) in
    record {
      runs = subst (IsRunsOf (in_union rs x)) (sym (set-one rs (length rs - 1) (length rs)
          (range (get_or rs (length rs - 1) d).start x.end) (omega arith) (omega arith))) splices.runs;
      differs = splices.differs;
    }

-- a range inside the last run adds nothing
pub IsRunsOf-inside_last : (rs : List (Range ℕ)) (x d : Range ℕ) → IsMaximalRuns rs → x.start < x.end → 0 < length rs
    → (get_or rs (length rs - 1) d).start ≤ x.start
    → x.end ≤ (get_or rs (length rs - 1) d).end → IsRunsOf (in_union rs x) rs
IsRunsOf-inside_last rs x d h lt some lo hi =
    let count : length rs ≡ suc (length rs - 1) = omega arith in
    IsRunsOf-inside rs x d (length rs - 1) h lt (sym (ends_below-others 0 x.start (length rs - 1) d rs h count lo
    (omega arith))) (omega arith) lo hi

-- pushing a run makes one more of them, whichever list the new set has
pub length-pushed : (p : ℕ → Bool) (rs ss : List (Range ℕ)) (x : Range ℕ) → BecomesRunsOf p rs (rs ++ x ∷ [])
    → IsRunsOf p ss → length ss ≡ length rs + 1
length-pushed p rs ss x becomes h = ap length (IsRunsOf-unique p ss (rs ++ x ∷ []) h becomes.runs) ∙ one_more rs where
  one_more : (rs : List (Range ℕ)) → length (rs ++ x ∷ []) ≡ length rs + 1
  one_more [] = refl
  one_more (r ∷ rs) = let ih = one_more rs in omega arith
