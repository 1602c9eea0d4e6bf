use Rattle.std.proofs.Common.{length, ◌-◌}
use Rattle.quic_c.proofs.RangeWalks.{RangeWalk}
use Rattle.quic_c.proofs.walks.walk_ranges_fill.Given as goal

abbrev pub invariant-loop-count : goal.invariant-loop-count
invariant-loop-count l = RangeWalk l.initial.ranges l.payload l.fn.out l.ranges l.out l.count

abbrev pub decreases-loop-count : goal.decreases-loop-count
decreases-loop-count l = length l.initial.out - l.count
