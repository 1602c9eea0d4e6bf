-- Ranges of an ACK whose numbers have any width, read from the front of sixteen bytes.
use Rattle.std.proofs.Common.{◌≡◌, ℕ, suc, ◌+◌, ◌-◌, ◌≤◌, ◌<◌, Result, Ok, List, ◌++◌, length, take, drop, false, nat_lt, refl, sym, ap, subst, ◌∙◌, append_assoc, arith}
use Rattle.std.proofs.lemmas.Bool.Decides.{nat_tests}
use Rattle.std.proofs.lemmas.List.{take_rest, take-append-drop, drop-append-le, length-append, length-take-le}
use Rattle.std.proofs.Math.Seq.{drop-append_seam}
use Rattle.quic_base.specs.Number.{AreBytes}
use Rattle.quic_base.proofs.PublicLaws.{back_bytes}
use Rattle.quic_frame_fields.specs.declared.frame.fault.Fault.{Fault}
use Rattle.quic_frame_fields.specs.Reading.{varint_at, block_at, gap_at, range_at, below_at}
use Rattle.quic_frame_fields.proofs.Gaps.{by_range}
use Rattle.quic_frame_fields.proofs.Varints.{varint_takes, varint_again}

-- a range by its two numbers
range_of_two : (low n m : ℕ) (bytes middle rest : List ℕ) → varint_at bytes ≡ Ok (n, middle)
    → varint_at middle ≡ Ok (m, rest) → n + 2 + m ≤ low
    → range_at low bytes ≡ Ok ((low - (n + 2 + m), low - (n + 2)), rest)
unfolding range_at gap_at block_at
range_of_two low n m bytes middle rest one two le =
    let gap_fits : nat_lt low (n + 2) ≡ false = grind (arith, nat_tests) in
    let block_fits : nat_lt (low - (n + 2)) m ≡ false = grind (arith, nat_tests) in
    let least : low - (n + 2) - m ≡ low - (n + 2 + m) = omega arith in
    rw (one, gap_fits, two, block_fits, least) refl

-- A range at the front is read: its least number, and its length in bytes.
abbrev pub ReadsRange : List ℕ → ℕ → ℕ → ℕ → Type 0
ReadsRange front low least taken =
    (count : ℕ) (rest : List ℕ) → 0 < count → below_at count low (front ++ rest) ≡ below_at (count - 1) least (drop taken front ++ rest)

-- a number that the front of some bytes holds is read from all of them
read_longer : (n : ℕ) (front behind rest : List ℕ) → AreBytes front → varint_at front ≡ Ok (n, behind)
    → varint_at (front ++ rest) ≡ Ok (n, behind ++ rest)
read_longer n front behind rest fits e =
    let t = varint_takes front n behind fits e in
    ap (λ (l : List ℕ). varint_at (l ++ rest)) t.split ∙ ap varint_at (append_assoc t.front behind rest)
    ∙ varint_again n t.front (behind ++ rest) t.is

-- the two numbers of a range, and what they leave
behind_two : (n m : ℕ) (front middle after : List ℕ) → AreBytes front → varint_at front ≡ Ok (n, middle)
    → varint_at middle ≡ Ok (m, after)
    → (length after ≤ length front) × (drop (length front - length after) front ≡ after)
behind_two n m front middle after fits one two =
    let t = varint_takes front n middle fits one in
    let fits_middle = back_bytes t.front middle (subst AreBytes t.split fits) in
    let u = varint_takes middle m after fits_middle two in
    let split : front ≡ (t.front ++ u.front) ++ after =
    t.split ∙ ap (λ (l : List ℕ). t.front ++ l) u.split ∙ sym (append_assoc t.front u.front after) in
    let sizes : length front ≡ length (t.front ++ u.front) + length after =
    ap length split ∙ length-append (t.front ++ u.front) after in
    let size : length front - length after ≡ length (t.front ++ u.front) = omega (arith, sizes) in (
      omega (arith, sizes),
      ap (λ (k : ℕ). drop k front) size ∙ ap (drop (length (t.front ++ u.front))) split
          ∙ drop-append_seam (t.front ++ u.front) after,
    )

pub wide_few : (n m : ℕ) (front middle after : List ℕ) → AreBytes front → varint_at front ≡ Ok (n, middle)
    → varint_at middle ≡ Ok (m, after) → length after ≤ length front
wide_few n m front middle after fits one two = (behind_two n m front middle after fits one two).0

pub wide_read : (low n m : ℕ) (front middle after : List ℕ) → length front ≡ 16 → AreBytes front
    → varint_at front ≡ Ok (n, middle) → varint_at middle ≡ Ok (m, after) → n + 2 + m ≤ low
    → ReadsRange front low (low - (n + 2 + m)) (16 - length after)
wide_read low n m front middle after sixteen fits one two le = λ count rest some.
    let t = varint_takes front n middle fits one in
    let fits_middle = back_bytes t.front middle (subst AreBytes t.split fits) in
    let range =
    range_of_two low n m (front ++ rest) (middle ++ rest) (after ++ rest) (read_longer n front middle rest fits one)
    (read_longer m middle after rest fits_middle two) le in
    let k : count ≡ suc (count - 1) = omega arith in
    let read : below_at (suc (count - 1)) low (front ++ rest) ≡ below_at (count - 1) (low - (n + 2 + m)) (after ++ rest) =
    rw (by_range (count - 1) low (front ++ rest), range) refl in
    let left = (behind_two n m front middle after fits one two).1 in
    ap (λ (c : ℕ). below_at c low (front ++ rest)) k ∙ read
    ∙ ap (λ (l : List ℕ). below_at (count - 1) (low - (n + 2 + m)) (l ++ rest))
    (sym left ∙ ap (λ (s : ℕ). drop (s - length after) front) sixteen)

-- a step of the loop
pub wide_passes : (left low least taken : ℕ) (rest front : List ℕ) (total : Result (List ℕ) Fault)
    → front ≡ take 16 rest → 16 ≤ length rest → taken ≤ 16 → ReadsRange front low least taken → 0 < left
    → below_at left low rest ≡ total
    → below_at (left - 1) least (take (length rest - taken) (drop taken rest)) ≡ total
wide_passes left low least taken rest front total is long few reads some so_far =
    let sixteen : length front ≡ 16 = ap length is ∙ length-take-le 16 rest long in
    let whole : rest ≡ front ++ drop 16 rest =
    sym (take-append-drop 16 rest) ∙ ap (λ (l : List ℕ). l ++ drop 16 rest) (sym is) in
    let cut : take (length rest - taken) (drop taken rest) ≡ drop taken front ++ drop 16 rest =
    take_rest rest taken ∙ ap (drop taken) whole
    ∙ drop-append-le taken front (drop 16 rest) (omega (arith, few, sixteen)) in
    ap (below_at (left - 1) least) cut ∙ sym (reads left (drop 16 rest) some) ∙ ap (below_at left low) (sym whole)
    ∙ so_far
