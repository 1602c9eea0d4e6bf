use Rattle.std.proofs.Common.{rules}
use Rattle.quic_c.proofs.frames.quic_wire_frames_init_.Goals as goal

pub returns-clause-front : goal.returns-clause-front
returns-clause-front c = search rules

pub returns-clause-first : goal.returns-clause-first
returns-clause-first c = search rules
