use Rattle.quic_frame_fields.proofs.frame.write_into.ack.Goals as goal

pub returns : goal.returns
returns c last = c.ack_behind.ensures last
