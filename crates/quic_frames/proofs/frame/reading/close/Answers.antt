use Rattle.std.proofs.Common.{arith}
use Rattle.quic_frame_fields.specs.Reading.{frame_at, row_at, varint_at}
use Rattle.std.proofs.lemmas.Grind.{common_steps}
use Rattle.quic_frames.proofs.frame.reading.close.Goals as goal

pub returns-clause-gives : goal.returns-clause-gives
unfolding frame_at row_at varint_at
returns-clause-gives c = grind (arith, common_steps)

pub returns-in_err-error_code-clause-gives : goal.returns-in_err-error_code-clause-gives
unfolding frame_at row_at varint_at
returns-in_err-error_code-clause-gives c = grind (arith, common_steps)

pub returns-in_err-reason-2-clause-gives : goal.returns-in_err-reason-2-clause-gives
unfolding frame_at row_at varint_at
returns-in_err-reason-2-clause-gives c = grind (arith, common_steps)

pub returns-in_err-ty-clause-gives : goal.returns-in_err-ty-clause-gives
unfolding frame_at row_at varint_at
returns-in_err-ty-clause-gives c = grind (arith, common_steps)

pub from_u64_unchecked-requires : goal.from_u64_unchecked-requires
from_u64_unchecked-requires c = grind (arith, common_steps)

pub or_none-requires : goal.or_none-requires
or_none-requires c = grind (arith, common_steps)
