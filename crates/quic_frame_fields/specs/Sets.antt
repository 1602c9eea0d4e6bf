-- An ACK as a set of packet numbers (RFC 9000, section 19.3).
use Rattle.std.specs.Prelude.{⊤, ℕ, ◌-◌, List, [], ◌∷◌, ◌++◌, length, Option, Some, None, Bool, false, ◌&&◌, ◌||◌, nat_le}
use Rattle.std.specs.declared.ops.Range.{Range}
use Rattle.quic_frame_fields.specs.declared.frame.ack.EcnCounts.{EcnCounts}
use Rattle.quic_frame_fields.specs.declared.frame.ack.Ack as held
use Rattle.quic_frame_fields.specs.Field.{Number, Ranges}
use Rattle.quic_frame_fields.specs.Table.{Ack}
use Rattle.quic_frame_fields.specs.Payload.{Meaning}
use Rattle.quic_frame_fields.specs.Parts.{frame_of, counts_of}
use Rattle.quic_frame_fields.specs.Acks.{ranges_acked}
use Rattle.quic_frame_fields.specs.Numbers.{AreNumeric}

-- a run by its least and its greatest number
abbrev pub ends_of : Range ℕ → ℕ × ℕ
ends_of run = (run.start, run.end - 1)

-- the runs of a set, which ascend, as the ranges of an ACK, the greatest first
abbrev pub ranges_in : List (Range ℕ) → List (ℕ × ℕ)
ranges_in [] = []
ranges_in (run ∷ runs) = ranges_in runs ++ ends_of run ∷ []

-- the greatest number of ranges, of which the greatest comes first
abbrev pub greatest_in : List (ℕ × ℕ) → ℕ
greatest_in [] = 0
greatest_in (range ∷ ranges) = range.1

-- the number is in one of these ranges
abbrev pub is_in : List (ℕ × ℕ) → ℕ → Bool
is_in [] n = false
is_in (range ∷ ranges) n = (nat_le range.0 n && nat_le n range.1) || is_in ranges n

-- an ACK of the set with these runs
abbrev pub ack_of : ℕ → List (Range ℕ) → Option EcnCounts → Meaning
ack_of delay runs counts = frame_of Ack
    (Number (greatest_in (ranges_in runs)) ∷ Number delay ∷ Ranges (ranges_in runs) ∷ counts_of counts)

-- counts that have encodings
abbrev pub AreCounts : Option EcnCounts → Type 0
AreCounts None = ⊤
AreCounts (Some e) = AreNumeric (e.ect0 ∷ e.ect1 ∷ e.ce ∷ [])

-- the greatest number, the delay and the counts of an ACK have encodings
abbrev pub IsAckInRange : held.Ack → Type 0
IsAckInRange a = AreNumeric (a.largest ∷ a.delay ∷ []) × AreCounts a.ecn

-- ---- what encoders write. No public clause cites what follows.

-- the type of an ACK, by whether it has ECN counts
abbrev pub ack_type : Option EcnCounts → ℕ
ack_type None = 0x02
ack_type (Some counts) = 0x03

-- the numbers of the ECN counts, if they are given
abbrev pub count_numbers : Option EcnCounts → List ℕ
count_numbers None = []
count_numbers (Some counts) = counts.ect0 ∷ counts.ect1 ∷ counts.ce ∷ []

-- the numbers in front of the blocks of an ACK that is held, its type first
abbrev pub header_numbers : held.Ack → List ℕ
header_numbers a = ack_type a.ecn ∷ a.largest ∷ a.delay ∷ (length (ranges_acked a) - 1) ∷ []
