use Rattle.std.proofs.Common.{rules}
use Rattle.quic_ranges.proofs.range_set.vec_range_set.RangeSet.remove.Goals as goal

pub returns-clause-changed : goal.returns-clause-changed
returns-clause-changed c = rw (← c.self.view_is) c.cut.ensures.changed

pub returns-clause-difference : goal.returns-clause-difference
returns-clause-difference c = search rules
