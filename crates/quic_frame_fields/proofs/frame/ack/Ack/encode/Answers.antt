use Rattle.quic_frame_fields.proofs.frame.ack.Ack.encode.Goals as goal

pub returns : goal.returns
returns g c last = rw (← c.iter.ensures.runs, ← c.copied.ensures) (c.encode_runs.ensures last)
