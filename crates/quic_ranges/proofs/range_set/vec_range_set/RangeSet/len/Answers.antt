use Rattle.std.proofs.Common.{rules}
use Rattle.quic_ranges.proofs.range_set.vec_range_set.RangeSet.len.Goals as goal

pub returns : goal.returns
returns c = search rules
