use Rattle.std.proofs.Common.{◌-◌, length}
use Rattle.quic_c.proofs.RangeFilling.{RangeFilling}
use Rattle.quic_c.proofs.fill_ranges.fill_ranges.Given as goal

-- The entries before the count show the ranges that were passed.
abbrev pub invariant-loop-count : goal.invariant-loop-count
invariant-loop-count l = RangeFilling l.fn.from l.payload l.fn.out l.bytes l.left l.largest l.out l.count

abbrev pub decreases-loop-count : goal.decreases-loop-count
decreases-loop-count l = length l.out - l.count
