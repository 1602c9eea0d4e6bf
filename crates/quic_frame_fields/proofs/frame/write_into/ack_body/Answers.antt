use Rattle.quic_frame_fields.proofs.Bodies.{ack_behind_type}
use Rattle.quic_frame_fields.proofs.frame.write_into.ack_body.Goals as goal

pub returns : goal.returns
returns c last = rw (← ack_behind_type c.args.ack.now last) (c.ack_behind.ensures last)
