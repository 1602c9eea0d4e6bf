use Rattle.std.proofs.Common.{arith}
use Rattle.std.proofs.lemmas.Grind.{common_steps}
use Rattle.quic_frame_fields.specs.Reading.{row_at, varint_at}
use Rattle.quic_frames.proofs.frame.reading.new_connection_id.Goals as goal

pub returns-in_err-id : goal.returns-in_err-id
unfolding row_at varint_at
returns-in_err-id c = grind (arith, common_steps)
