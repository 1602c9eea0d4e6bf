use Rattle.std.proofs.Common.{rules}
use Rattle.quic_frame_fields.proofs.frame.encode.code_room.Goals as goal

pub returns-clause-value : goal.returns-clause-value
returns-clause-value c = search rules
