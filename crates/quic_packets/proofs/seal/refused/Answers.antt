use Rattle.std.proofs.Common.{rules}
use Rattle.quic_packets.proofs.seal.refused.Goals as goal

pub returns-clause-none : goal.returns-clause-none
returns-clause-none c = search rules

pub returns-then-protected-clause-too_long : goal.returns-then-protected-clause-too_long
returns-then-protected-clause-too_long c = search rules
