use Rattle.std.proofs.Common.{ℕ, List, length}
use Rattle.quic_base.specs.Number.{AreBytes}
use Rattle.quic_frame_fields.specs.Numbers.{AreEncoded}
use Rattle.quic_frame_fields.proofs.Encoded.{ReadSome, WroteThem}
use Rattle.quic_frame_fields.proofs.frame.write.each_shortened.Given as goal

abbrev pub invariant-loop-number : goal.invariant-loop-number
invariant-loop-number g l = record {
  read : (ns : List ℕ) → AreEncoded ns l.encoded → ReadSome (WroteThem (g.B.BufMut.written l.fn.out)
      (g.B.BufMut.spare l.fn.out) (g.B.BufMut.written l.out) (g.B.BufMut.spare l.out)) l.rest ns;
  fits : AreBytes l.rest;
}

abbrev pub decreases-loop-number : goal.decreases-loop-number
decreases-loop-number g l = length l.rest
