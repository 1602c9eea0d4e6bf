use Rattle.std.proofs.Common.{rules}
use Rattle.quic_packets.proofs.keys.Expected.of.Goals as goal

pub returns-in-Data : goal.returns-in-Data
returns-in-Data c = search rules
