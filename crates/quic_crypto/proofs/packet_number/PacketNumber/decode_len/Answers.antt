use Rattle.std.proofs.Common.{rules}
use Rattle.quic_crypto.proofs.packet_number.PacketNumber.decode_len.Goals as goal

pub returns : goal.returns
returns c = search rules
