use Rattle.std.proofs.Common.{rules}
use Rattle.quic_frame_fields.proofs.frame.close.Close.min_len.Goals as goal

pub returns-in-Application : goal.returns-in-Application
returns-in-Application c = search rules
