use Rattle.std.proofs.Common.{◌≤◌, ◌++◌, length, take}
use Rattle.quic_frame_fields.specs.Sets.{ranges_in}
use Rattle.quic_frame_fields.specs.Shortest.{shortest_below}
use Rattle.quic_frame_fields.proofs.AckParts.{HoldsRuns}
use Rattle.quic_frame_fields.proofs.frame.ack_encode.encode_below.Given as goal

abbrev pub invariant-loop-run : goal.invariant-loop-run
invariant-loop-run g l = record {
  near : l.at ≤ 64;
  holds : HoldsRuns (take l.fn.at l.fn.chunk ++ shortest_below l.fn.above.start (ranges_in l.fn.runs))
      (take l.at l.chunk) l.above l.runs (g.B.BufMut.written l.fn.out) (g.B.BufMut.spare l.fn.out)
      (g.B.BufMut.written l.out) (g.B.BufMut.spare l.out);
}

abbrev pub decreases-loop-run : goal.decreases-loop-run
decreases-loop-run g l = length l.runs
