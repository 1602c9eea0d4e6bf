-- The shortest encoding of a frame has a byte at least.
use Rattle.std.proofs.Common.{◌≡◌, ℕ, ◌<◌, ◌≤◌, eqb, Bool, true, false, length, arith}
use Rattle.std.specs.Prelude.{if◌then◌else◌, nat_lt, ◌^◌}
use Rattle.std.proofs.lemmas.Bool.Decides.{nat_tests}
use Rattle.std.proofs.lemmas.List.{length-append}
use Rattle.quic_base.specs.Varint.{size, shortest_varint}
use Rattle.quic_base.proofs.PublicLaws.{length-short}
use Rattle.quic_frame_fields.specs.Table.{row_of}
use Rattle.quic_frame_fields.specs.Payload.{Meaning}
use Rattle.quic_frame_fields.specs.Shortest.{written_type, shortest_row, shortest_frame}

some_if : (a b c : Bool) → 0 < (if a then 1 else if b then 2 else if c then 4 else 8)
some_if true b c = omega arith
some_if false true c = omega arith
some_if false false true = omega arith
some_if false false false = omega arith

size_some : (v : ℕ) → 0 < size v
unfolding size
size_some v = some_if (nat_lt v (2 ^ 6)) (nat_lt v (2 ^ 14)) (nat_lt v (2 ^ 30))

shortest_some : (last : Bool) (frame : Meaning) → 0 < length (shortest_frame last frame)
unfolding shortest_frame
shortest_some last frame =
    let t = written_type last frame.name frame.values in
    omega (arith, length-append (shortest_varint t) (shortest_row (row_of t) frame.values), length-short t, size_some t)

pub one_byte : (last : Bool) (frame : Meaning) (len : ℕ) → len ≡ 1 → length (shortest_frame last frame) ≤ len
    → true ≡ eqb (length (shortest_frame last frame)) len
one_byte last frame len e le = let some = shortest_some last frame in grind (arith, nat_tests)
