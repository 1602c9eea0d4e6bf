use Rattle.std.proofs.Common.{◌≡◌, ◌⊎◌, inl, inr}
use Rattle.quic_c_write.proofs.AckGaps.{numeric_by}
use Rattle.quic_c_write.proofs.ack_gaps.are_numeric.Goals.{else-ack-ne0-via-then-ack-ne0+else-ack-ne2, else-ack-ne0-via-else-ack-ne0}
use Rattle.quic_c_write.proofs.ack_gaps.are_numeric.Goals as goal

pub returns : goal.returns
returns c =
    let flags : (c.args.ack.now.flags ≡ 0) ⊎ (c.args.ack.now.flags ≡ 2) = elim c.else-ack-ne0.branch [
      | else-ack-ne0-via-then-ack-ne0+else-ack-ne2 w ↦ inr w.if-ack-ne2.false
      | else-ack-ne0-via-else-ack-ne0 w ↦ inl w.if-ack-ne0.false
    ] in
    numeric_by c.args.ack.now c.bits_of_counts.result flags c.bits_of_counts.ensures
