use Rattle.std.proofs.Common.{rules}
use Rattle.quic_crypto.proofs.packet_number.PacketNumber.expand.Goals as goal

pub returns-in-U8 : goal.returns-in-U8
returns-in-U8 c = search rules
