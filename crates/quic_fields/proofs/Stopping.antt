-- Where reading stops inside a field is what the grammar says.
use Rattle.std.proofs.Common.{◌≡◌, ℕ, zero, suc, ◌+◌, ◌-◌, ◌<◌, Bool, true, false, cond, ltb, eqb, List, [], ◌∷◌, ◌++◌, length, take, drop, Result, Ok, Err, refl, sym, ap, subst, ◌∙◌, inl, inr, arith}
use Rattle.std.specs.Prelude.{◌⊎◌, ◌||◌}
use Rattle.quic_base.specs.Number.{AreBytes}
use Rattle.quic_base.specs.Varint.{Encodes}
use Rattle.quic_base.proofs.PublicLaws.{back_bytes}
use Rattle.quic_frame_fields.specs.declared.frame.fault.Fault.{Fault}
use Rattle.quic_frame_fields.specs.declared.frame.fault.Fault.TheVariants.{UnexpectedEnd, Malformed}
use Rattle.quic_frame_fields.specs.Field.{Value, Field, Varint, Counted, Id, Uint64, Bytes16, Blocks, Rest, Implied, Ordered, greatest_of, Stops, Begins, NoNumber, NumberStops, BelowStops, RangesStop, BlocksStop}
use Rattle.quic_frame_fields.specs.Reading.{varint_at, block_at, gap_at, bytes_at, counted_at, id_at, of_bytes, field_at}
use Rattle.quic_base.specs.Reading.{◌>>=◌}
use Rattle.std.proofs.lemmas.Bool.Decides.{nat_tests}
use Rattle.quic_frame_fields.proofs.Steps.{err_of, failure}
use Rattle.quic_frame_fields.proofs.Varints.{varint_takes, varint_again, varint_fails}
use Rattle.quic_frame_fields.proofs.Fields.{stops_again}
use Rattle.quic_fields.specs.Inside.{at_block, inside_below, inside_blocks, inside_counted, inside}
use Rattle.quic_fields.specs.Stopping.{StopsInside, NumberStopsAt, BelowStopsAt, RangesStopAt}

pub no_number : (bytes : List ℕ) → AreBytes bytes → NoNumber bytes → varint_at bytes ≡ Err UnexpectedEnd
no_number bytes fits none =
    let failed =
    err_of (varint_at bytes) (λ x h. let t = varint_takes bytes x.0 x.1 fits h in none x.0 t.front x.1 t.split t.is) in
    failed.1 ∙ ap failure (varint_fails bytes failed.0 failed.1)

number_read : (bytes : List ℕ) (n : ℕ) (front back : List ℕ) → bytes ≡ front ++ back → Encodes n front
    → varint_at bytes ≡ Ok (n, back)
number_read bytes n front back parts s = ap varint_at parts ∙ varint_again n front back s

block_inside : (total read greatest : ℕ) (bytes : List ℕ) (reason : Fault) (others : ℕ → List ℕ → ℕ × ℕ)
    (Stop : ℕ → List ℕ → Type 0) (After : ℕ → List ℕ → ℕ × ℕ → Type 0) → AreBytes bytes
    → ((n : ℕ) (left : List ℕ) → AreBytes left → Stop n left → After n left (others (greatest - n) left))
    → NumberStops bytes reason (λ n. ltb greatest n) Stop
    → NumberStopsAt bytes reason (λ n. ltb greatest n)
    (at_block total (length bytes) read others (block_at greatest bytes) ≡ (total - length bytes, read))
    (λ n left. After n left (at_block total (length bytes) read others (block_at greatest bytes)))
unfolding block_at
block_inside total read greatest bytes reason others Stop After fits step (inl s) =
    inl (s.0, s.1, rw (no_number bytes fits s.0) refl)
block_inside total read greatest bytes reason others Stop After fits step (inr (inl s)) =
    inr (inl (s.0, s.1, s.2, s.3, s.4, (s.5.0, s.5.1, rw (number_read bytes s.0 s.1 s.2 s.3 s.4, s.5.0) refl)))
block_inside total read greatest bytes reason others Stop After fits step (inr (inr s)) =
    let back_fits = back_bytes s.1 s.2 (subst AreBytes s.3 fits) in
    let here : at_block total (length bytes) read others (block_at greatest bytes) ≡ others (greatest - s.0) s.2 =
    rw (number_read bytes s.0 s.1 s.2 s.3 s.4, s.5.0) refl in
    inr (inr (s.0, s.1, s.2, s.3, s.4, (s.5.0, subst (After s.0 s.2) (sym here) (step s.0 s.2 back_fits s.5.1))))

gap_inside : (total read low : ℕ) (bytes : List ℕ) (reason : Fault) (others : ℕ → List ℕ → ℕ × ℕ)
    (Stop : ℕ → List ℕ → Type 0) (After : ℕ → List ℕ → ℕ × ℕ → Type 0) → AreBytes bytes
    → ((n : ℕ) (left : List ℕ) → AreBytes left → Stop n left → After n left (others (low - (n + 2)) left))
    → NumberStops bytes reason (λ n. ltb low (n + 2)) Stop
    → NumberStopsAt bytes reason (λ n. ltb low (n + 2))
    (at_block total (length bytes) read others (gap_at low bytes) ≡ (total - length bytes, read))
    (λ n left. After n left (at_block total (length bytes) read others (gap_at low bytes)))
unfolding gap_at
gap_inside total read low bytes reason others Stop After fits step (inl s) =
    inl (s.0, s.1, rw (no_number bytes fits s.0) refl)
gap_inside total read low bytes reason others Stop After fits step (inr (inl s)) =
    inr (inl (s.0, s.1, s.2, s.3, s.4, (s.5.0, s.5.1, rw (number_read bytes s.0 s.1 s.2 s.3 s.4, s.5.0) refl)))
gap_inside total read low bytes reason others Stop After fits step (inr (inr s)) =
    let back_fits = back_bytes s.1 s.2 (subst AreBytes s.3 fits) in
    let here : at_block total (length bytes) read others (gap_at low bytes) ≡ others (low - (s.0 + 2)) s.2 =
    rw (number_read bytes s.0 s.1 s.2 s.3 s.4, s.5.0) refl in
    inr (inr (s.0, s.1, s.2, s.3, s.4, (s.5.0, subst (After s.0 s.2) (sym here) (step s.0 s.2 back_fits s.5.1))))

below_inside : (total read count low : ℕ) (bytes : List ℕ) (reason : Fault) → AreBytes bytes
    → BelowStops count low bytes reason
    → BelowStopsAt total read count low bytes reason (inside_below total read count low bytes)
below_inside total read zero low bytes reason fits s = absurd s
below_inside total read (suc count) low bytes reason fits s =
    gap_inside total read low bytes reason
    (λ greatest behind. at_block total (length behind) (read + 1)
    (λ least left. inside_below total (read + 2) count least left) (block_at greatest behind))
    (λ gap rest. NumberStops rest reason (λ block. ltb (low - (gap + 2)) block)
    (λ block others. BelowStops count (low - (gap + 2) - block) others reason))
    (λ gap rest at. NumberStopsAt rest reason (λ block. ltb (low - (gap + 2)) block) (at ≡ (total - length rest, read + 1))
    (λ block others. BelowStopsAt total (read + 2) count (low - (gap + 2) - block) others reason at))
    fits
    (λ gap rest rest_fits t. block_inside total (read + 1) (low - (gap + 2)) rest reason
    (λ least left. inside_below total (read + 2) count least left)
    (λ block others. BelowStops count (low - (gap + 2) - block) others reason)
    (λ block others at. BelowStopsAt total (read + 2) count (low - (gap + 2) - block) others reason at)
    rest_fits
    (λ block others others_fit u. below_inside total (read + 2) count (low - (gap + 2) - block) others reason others_fit u) t)
    s

ranges_inside : (total count greatest : ℕ) (bytes : List ℕ) (reason : Fault) → AreBytes bytes
    → RangesStop count greatest bytes reason
    → RangesStopAt total count greatest bytes reason
    (at_block total (length bytes) 1 (λ least left. inside_below total 2 count least left) (block_at greatest bytes))
ranges_inside total count greatest bytes reason fits s =
    block_inside total 1 greatest bytes reason (λ least left. inside_below total 2 count least left)
    (λ block others. BelowStops count (greatest - block) others reason)
    (λ block others at. BelowStopsAt total 2 count (greatest - block) others reason at) fits
    (λ block others others_fit u. below_inside total 2 count (greatest - block) others reason others_fit u) s

pub blocks_inside : (greatest : ℕ) (bytes : List ℕ) (reason : Fault) → AreBytes bytes → BlocksStop greatest bytes reason
    → NumberStopsAt bytes reason (λ count. false) (inside_blocks (length bytes) greatest (varint_at bytes) ≡ (0, 0))
    (λ count rest. RangesStopAt (length bytes) count greatest rest reason
    (inside_blocks (length bytes) greatest (varint_at bytes)))
blocks_inside greatest bytes reason fits (inl s) = inl (s.0, s.1, rw (no_number bytes fits s.0) refl)
blocks_inside greatest bytes reason fits (inr (inl s)) = absurd cc
blocks_inside greatest bytes reason fits (inr (inr s)) =
    let back_fits = back_bytes s.1 s.2 (subst AreBytes s.3 fits) in
    let read = number_read bytes s.0 s.1 s.2 s.3 s.4 in
    let here = ap (inside_blocks (length bytes) greatest) read in
    inr (inr (
      s.0,
      s.1,
      s.2,
      s.3,
      s.4,
      (
        s.5.0,
        subst
            (λ (at : ℕ × ℕ). RangesStopAt (length bytes) s.0 greatest s.2 reason at) (sym here)
            (ranges_inside (length bytes) s.0 greatest s.2 reason back_fits s.5.1),
      ),
    ))

-- ---- fields with a length

below : (a b : ℕ) → ltb a b ≡ true → a < b
below a b e = grind (arith, nat_tests)

short_of : {A : Type 0} (b : Bool) (x : A) (d e : Fault) (k : A → Result (List Value × List ℕ) Fault)
    → ((y : A) → k y ≡ Err e → ⊥) → (cond b (Err d) (Ok x) >>= k) ≡ Err e → b ≡ true
short_of true x d e k never h = refl
short_of false x d e k never h = absurd (never x h)

bytes_short : (n : ℕ) (bytes : List ℕ) (e : Fault) → (bytes_at n bytes >>= of_bytes) ≡ Err e → length bytes < n
unfolding bytes_at
bytes_short n bytes e h =
    below (length bytes) n (short_of (ltb (length bytes) n) (take n bytes, drop n bytes) UnexpectedEnd e of_bytes (λ y g. absurd cc) h)

counted_inside : (before : List Value) (bytes : List ℕ) (reason : Fault) (r : Result (ℕ × List ℕ) Fault) → AreBytes bytes
    → varint_at bytes ≡ r → field_at Counted before bytes ≡ Err reason
    → (NoNumber bytes × (inside_counted (length bytes) r ≡ (0, 0)))
    ⊎ Begins bytes (λ n rest. (length rest < n) × (inside_counted (length bytes) r ≡ (length bytes - length rest, 1)))
unfolding counted_at
counted_inside before bytes reason (Err d) fits h e =
    inl (λ n front back parts v. let again = ap varint_at parts ∙ varint_again n front back v in absurd (cc (again, h)), refl)
counted_inside before bytes reason (Ok y) fits h e =
    let t = varint_takes bytes y.0 y.1 fits h in
    let rest : (bytes_at y.0 y.1 >>= of_bytes) ≡ Err reason = rw h at e in
    inr (y.0, t.front, y.1, t.split, t.is, (bytes_short y.0 y.1 reason rest, refl))

-- what comes before what is at fault in an id: nothing, or its length
abbrev of_length : Bool → ℕ × ℕ
of_length is_wrong = cond is_wrong (0, 0) (1, 1)

id_inside : (n : ℕ) (bytes : List ℕ) (reason : Fault) (b : Bool) (none one : ℕ × ℕ) → none ≡ of_length true
    → one ≡ of_length false → reason ≡ cond b Malformed UnexpectedEnd
    → (cond b (Err Malformed) (bytes_at n bytes) >>= of_bytes) ≡ Err reason
    → ((reason ≡ Malformed) × (of_length b ≡ none)) ⊎ ((reason ≡ UnexpectedEnd) × (length bytes < n) × (of_length b ≡ one))
id_inside n bytes reason true none one p q why e = inl (why, sym p)
id_inside n bytes reason false none one p q why e = inr (why, bytes_short n bytes reason e, sym q)

pub stops_inside : (field : Field) (before : List Value) (bytes : List ℕ) (reason : Fault) → AreBytes bytes
    → Stops field before bytes reason → StopsInside field before bytes reason (inside field before bytes)
unfolding id_at
stops_inside Counted before bytes reason fits s =
    counted_inside before bytes reason (varint_at bytes) fits refl (stops_again Counted before bytes reason fits s)
stops_inside Id before [] reason fits s = refl
stops_inside Id before (n ∷ bytes) reason fits s =
    id_inside n bytes reason (eqb n 0 || ltb 20 n) (0, 0) (1, 1) refl refl s.why (stops_again Id before (n ∷ bytes) reason fits s)
stops_inside Blocks before bytes reason fits s = blocks_inside (greatest_of before) bytes reason fits s.why
stops_inside Varint before bytes reason fits s = refl
stops_inside Uint64 before bytes reason fits s = refl
stops_inside Bytes16 before bytes reason fits s = refl
stops_inside Rest before bytes reason fits s = refl
stops_inside (Implied n) before bytes reason fits s = refl
stops_inside Ordered before bytes reason fits s = refl
