-- A block and a gap of one byte each, at the front of blocks.
use Rattle.std.proofs.Common.{◌≡◌, ℕ, ◌-◌, ◌+◌, ◌≤◌, ◌<◌, List, [], ◌∷◌, length, Ok, arith}
use Rattle.quic_base.specs.Number.{AreBytes}
use Rattle.quic_frame_fields.specs.Reading.{block_at, gap_at, ranges_of, blocks_left}
use Rattle.quic_frame_fields.proofs.Gaps.{short_block, short_gap}
use Rattle.quic_frame_fields.proofs.UncountedBlocks.{is_blocks, are_left, first_of, first_and_next}

pub short_first : (greatest n m : ℕ) (rest bytes : List ℕ) → AreBytes bytes → 0 < length bytes
    → blocks_left greatest bytes ≡ Ok [] → bytes ≡ n ∷ m ∷ rest → n < 64 → m < 64 → n + (m + 2) ≤ greatest
    → (ranges_of greatest bytes ≡ (greatest - n, greatest) ∷ ranges_of (greatest - (n + (m + 2))) rest)
    × (blocks_left (greatest - (n + (m + 2))) rest ≡ Ok [])
short_first greatest n m rest bytes fits some left front one two le =
    let valid = is_blocks greatest bytes some left in
    let block : block_at greatest bytes ≡ Ok (greatest - n, m ∷ rest) =
    rw front (short_block greatest n (m ∷ rest) one (omega arith)) in
    let first = first_of greatest bytes (greatest - n) (m ∷ rest) fits valid block in
    let all : greatest - n - (m + 2) ≡ greatest - (n + (m + 2)) = omega arith in
    let gap : gap_at (greatest - n) (m ∷ rest) ≡ Ok (greatest - (n + (m + 2)), rest) =
    rw (← all) (short_gap (greatest - n) m rest two (omega arith)) in
    let next = first_and_next greatest bytes (greatest - n) (m ∷ rest) (greatest - (n + (m + 2)), rest) first gap in
    (next.0, are_left (greatest - (n + (m + 2))) rest next.1)
