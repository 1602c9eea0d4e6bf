use Rattle.std.proofs.Common.{rules}
use Rattle.quic_packets.proofs.opening.open_part.Goals as goal

pub returns-in-Some-clause-opened : goal.returns-in-Some-clause-opened
returns-in-Some-clause-opened g c = search rules

pub returns-in-Some-clause-refused : goal.returns-in-Some-clause-refused
returns-in-Some-clause-refused g c = search rules
