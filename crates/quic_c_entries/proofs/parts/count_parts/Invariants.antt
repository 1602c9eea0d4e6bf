use Rattle.std.proofs.Common.{◌≡◌, length, take}
use Rattle.quic_ranges.specs.Intersections.{intersections}
use Rattle.quic_c_entries.specs.Entries.{range_of, runs_of}
use Rattle.quic_c_entries.proofs.parts.count_parts.Given as goal

abbrev pub invariant-loop-run : goal.invariant-loop-run
invariant-loop-run l = l.count ≡ length (intersections (runs_of (take l.run-index l.runs)) (range_of l.x))
