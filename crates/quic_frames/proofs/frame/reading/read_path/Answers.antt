use Rattle.std.proofs.Common.{arith}
use Rattle.quic_frame_fields.specs.Reading.{frame_at, row_at}
use Rattle.std.proofs.lemmas.Grind.{common_steps}
use Rattle.quic_frames.proofs.frame.reading.read_path.Goals as goal

pub returns : goal.returns
unfolding frame_at row_at
returns c = grind (arith, common_steps)

pub returns-in_err-token : goal.returns-in_err-token
unfolding frame_at row_at
returns-in_err-token c = grind (arith, common_steps)
