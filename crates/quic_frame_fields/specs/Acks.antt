-- Acknowledgements as the code holds them (RFC 9000, section 19.3).
use Rattle.std.specs.Prelude.{◌≡◌, ℕ, ◌+◌, List, Option}
use Rattle.std.specs.Range.{range_inclusive_start, range_inclusive_end}
use Rattle.std.specs.declared.ops.RangeInclusive.{RangeInclusive}
use Rattle.quic_base.specs.declared.ids.EcnCodepoint.{EcnCodepoint}
use Rattle.quic_base.specs.declared.ids.EcnCodepoint.TheVariants.{Ect0, Ect1, Ce}
use Rattle.quic_frame_fields.specs.declared.frame.fault.Fault.{Fault}
use Rattle.quic_frame_fields.specs.declared.frame.fault.Fault.TheVariants as faults
use Rattle.quic_frame_fields.specs.declared.frame.ack.Ack.{Ack}
use Rattle.quic_frame_fields.specs.declared.frame.ack.AckIter.{AckIter}
use Rattle.quic_frame_fields.specs.declared.frame.ack.AckError.{AckError}
use Rattle.quic_frame_fields.specs.declared.frame.ack.AckError.TheVariants.{UnexpectedEnd, Malformed}
use Rattle.quic_frame_fields.specs.declared.frame.ack.EcnCounts.{EcnCounts}
use Rattle.quic_frame_fields.specs.Reading.{ranges_of}

-- the greatest number, the delay, the bytes of the blocks, the counts
pub record AckParts : Type 0 where
  pub largest : ℕ
  pub delay : ℕ
  pub additional : List ℕ
  pub ecn : Option EcnCounts

abbrev pub parts_of : Ack → AckParts
parts_of a = record { largest = a.largest; delay = a.delay; additional = a.additional.now; ecn = a.ecn }

-- the ranges that it acknowledges, each by its least and its greatest number, the greatest range first
abbrev pub ranges_acked : Ack → List (ℕ × ℕ)
ranges_acked a = ranges_of a.largest a.additional.now

-- the ranges that an iterator hasn't returned yet
abbrev pub ranges_left : AckIter → List (ℕ × ℕ)
ranges_left it = ranges_of it.largest it.blocks.now

-- a range by its bounds
abbrev pub bounds_of : RangeInclusive ℕ → ℕ × ℕ
bounds_of range = (range_inclusive_start range, range_inclusive_end range)

abbrev pub fault_of : AckError → Fault
fault_of UnexpectedEnd = faults.UnexpectedEnd
fault_of Malformed = faults.Malformed

-- how many packets with a codepoint were counted
abbrev pub count_of : EcnCodepoint → EcnCounts → ℕ
count_of Ect0 counts = counts.ect0
count_of Ect1 counts = counts.ect1
count_of Ce counts = counts.ce

-- the count of this codepoint is one more, and no other count has changed
abbrev pub CountsOne : EcnCounts → EcnCodepoint → EcnCounts → Type 0
CountsOne old Ect0 new = new ≡ record old { ect0 = old.ect0 + 1 }
CountsOne old Ect1 new = new ≡ record old { ect1 = old.ect1 + 1 }
CountsOne old Ce new = new ≡ record old { ce = old.ce + 1 }
