-- Ranges of an ACK one after the other, as a loop reads them.
use Rattle.std.proofs.Common.{◌≡◌, ℕ, suc, ◌-◌, ◌+◌, ◌≤◌, ◌<◌, List, ◌∷◌, Result, Ok, Err, refl, sym, ap, ◌∙◌, arith, nat_lt, false}
use Rattle.std.proofs.lemmas.Bool.Decides.{nat_tests}
use Rattle.quic_base.specs.Reading.{◌>>=◌}
use Rattle.quic_frame_fields.specs.declared.frame.fault.Fault.{Fault}
use Rattle.quic_frame_fields.specs.Reading.{block_at, gap_at, range_at, below_at}
use Rattle.quic_frame_fields.proofs.Varints.{one_at}

abbrev as_range : ℕ → ℕ × List ℕ → (ℕ × ℕ) × List ℕ
as_range high block = ((block.0, high), block.1)

after_gap : (count high : ℕ) (block : Result (ℕ × List ℕ) Fault)
    → (block >>= λ b. below_at count b.0 b.1) ≡ ((block >>= λ b. Ok (as_range high b)) >>= λ r. below_at count r.0.0 r.1)
after_gap count high (Ok b) = refl
after_gap count high (Err e) = refl

from_gap : (count : ℕ) (gap : Result (ℕ × List ℕ) Fault)
    → (gap >>= λ g. block_at g.0 g.1 >>= λ b. below_at count b.0 b.1)
    ≡ ((gap >>= λ g. block_at g.0 g.1 >>= λ b. Ok (as_range g.0 b)) >>= λ r. below_at count r.0.0 r.1)
from_gap count (Ok g) = after_gap count g.0 (block_at g.0 g.1)
from_gap count (Err e) = refl

-- ranges are read one by one
pub by_range : (count low : ℕ) (bytes : List ℕ)
    → below_at (suc count) low bytes ≡ (range_at low bytes >>= λ r. below_at count r.0.0 r.1)
unfolding below_at range_at
by_range count low bytes = from_gap count (gap_at low bytes)

pub goes_on : (left low high least : ℕ) (bytes after : List ℕ) (total : Result (List ℕ) Fault) → 0 < left
    → range_at low bytes ≡ Ok ((least, high), after) → below_at left low bytes ≡ total
    → below_at (left - 1) least after ≡ total
goes_on left low high least bytes after total some r so_far =
    let k : left ≡ suc (left - 1) = omega arith in
    let one : below_at left low bytes ≡ below_at (left - 1) least after =
    ap (λ (n : ℕ). below_at n low bytes) k ∙ rw (by_range (left - 1) low bytes, r) refl in
    sym one ∙ so_far

pub range_ends : (left low : ℕ) (bytes : List ℕ) (e : Fault) (total : Result (List ℕ) Fault) → 0 < left
    → range_at low bytes ≡ Err e → below_at left low bytes ≡ total → total ≡ Err e
range_ends left low bytes e total some r so_far =
    let k : left ≡ suc (left - 1) = omega arith in
    let one : below_at left low bytes ≡ Err e =
    ap (λ (n : ℕ). below_at n low bytes) k ∙ rw (by_range (left - 1) low bytes, r) refl in
    sym so_far ∙ one

pub is_done : (left low : ℕ) (bytes : List ℕ) (total : Result (List ℕ) Fault) → left ≤ 0
    → below_at left low bytes ≡ total → total ≡ Ok bytes
unfolding below_at
is_done left low bytes total le so_far =
    let k : left ≡ 0 = omega arith in
    let one : below_at left low bytes ≡ Ok bytes = rw k refl in
    sym so_far ∙ one

-- a block and a gap of one byte each
pub short_block : (greatest n : ℕ) (rest : List ℕ) → n < 64 → n ≤ greatest
    → block_at greatest (n ∷ rest) ≡ Ok (greatest - n, rest)
unfolding block_at
short_block greatest n rest lt le =
    let no : nat_lt greatest n ≡ false = grind (arith, nat_tests) in
    rw (one_at n rest lt, no) refl

pub short_gap : (low n : ℕ) (rest : List ℕ) → n < 64 → n + 2 ≤ low → gap_at low (n ∷ rest) ≡ Ok (low - (n + 2), rest)
unfolding gap_at
short_gap low n rest lt le =
    let no : nat_lt low (n + 2) ≡ false = grind (arith, nat_tests) in
    rw (one_at n rest lt, no) refl

pub short_range : (low n m : ℕ) (rest : List ℕ) → n < 64 → m < 64 → n + 2 + m ≤ low
    → range_at low (n ∷ m ∷ rest) ≡ Ok ((low - (n + 2 + m), low - (n + 2)), rest)
unfolding range_at
short_range low n m rest one two le =
    let k : low - (n + 2) - m ≡ low - (n + 2 + m) = omega arith in
    rw (short_gap low n (m ∷ rest) one (omega arith), short_block (low - (n + 2)) m rest two (omega arith), k) refl
