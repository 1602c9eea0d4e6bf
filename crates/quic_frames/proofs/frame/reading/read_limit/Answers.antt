use Rattle.std.proofs.Common.{arith}
use Rattle.quic_frame_fields.specs.Reading.{frame_at, row_at, varint_at}
use Rattle.std.proofs.lemmas.Grind.{common_steps}
use Rattle.quic_frames.proofs.frame.reading.read_limit.Goals as goal

pub returns : goal.returns
unfolding frame_at row_at varint_at
returns c = grind (arith, common_steps)

pub returns-in_err-first : goal.returns-in_err-first
unfolding frame_at row_at varint_at
returns-in_err-first c = grind (arith, common_steps)
