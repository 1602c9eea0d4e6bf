use Rattle.std.proofs.Common.{ℕ, List, ◌≤◌, ◌+◌, length}
use Rattle.quic_base.specs.Number.{AreBytes}
use Rattle.quic_frame_fields.specs.Numbers.{AreEncoded}
use Rattle.quic_frame_fields.proofs.Encoded.{ReadSome, AreCounted}
use Rattle.quic_frame_fields.proofs.frame.write.count_and_len.Given as goal

abbrev pub invariant-loop-number : goal.invariant-loop-number
invariant-loop-number l = record {
  read : (ns : List ℕ) → AreEncoded ns l.encoded → ReadSome (AreCounted l.count l.len) l.rest ns;
  few : l.count + length l.rest ≤ length l.encoded;
  small : l.len + length l.rest ≤ length l.encoded;
  fits : AreBytes l.rest;
}

abbrev pub decreases-loop-number : goal.decreases-loop-number
decreases-loop-number l = length l.rest
