use Rattle.std.proofs.Common.{length}
use Rattle.quic_base.specs.Number.{AreBytes}
use Rattle.quic_frame_fields.proofs.UncountedBlocks.{Comes}
use Rattle.quic_frame_fields.proofs.frame.field.all_blocks.Given as goal

-- some pairs were read, and what is left are bytes
abbrev pub invariant-loop-rest : goal.invariant-loop-rest
invariant-loop-rest l = record {
  comes : Comes l.greatest l.bytes l.low l.rest;
  fits : AreBytes l.rest;
}

abbrev pub decreases-loop-rest : goal.decreases-loop-rest
decreases-loop-rest l = length l.rest
