use Rattle.std.proofs.Common.{ℕ, List, length}
use Rattle.quic_base.specs.Number.{AreBytes}
use Rattle.quic_frame_fields.specs.Numbers.{AreEncoded}
use Rattle.quic_frame_fields.proofs.Encoded.{ReadSome}
use Rattle.quic_frame_fields.proofs.Putting.{StoredThem}
use Rattle.quic_frame_fields.proofs.frame.write_into.store_each.Given as goal

abbrev pub invariant-loop-number : goal.invariant-loop-number
invariant-loop-number l = record {
  read : (ns : List ℕ) → AreEncoded ns l.encoded → ReadSome (StoredThem l.fn.at l.fn.dest l.at l.dest) l.rest ns;
  fits : AreBytes l.rest;
}

abbrev pub decreases-loop-number : goal.decreases-loop-number
decreases-loop-number l = length l.rest
