use Rattle.std.proofs.Common.{◌≡◌, ◌++◌, drop}
use Rattle.quic_ranges.specs.Intersections.{intersections}
use Rattle.quic_ranges.proofs.range_set.vec_range_set.find_intersections.Given as goal

-- the intersections so far, and those that are to come
abbrev pub invariant-loop-run : goal.invariant-loop-run
invariant-loop-run l = l.found.items ++ intersections (drop l.run-index l.run-items) l.x ≡ intersections l.runs l.x
