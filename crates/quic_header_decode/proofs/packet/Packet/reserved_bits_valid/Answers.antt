use Rattle.std.proofs.Common.{rules}
use Rattle.quic_header_decode.proofs.packet.Packet.reserved_bits_valid.Goals as goal

pub returns-then-is_short : goal.returns-then-is_short
returns-then-is_short c = search rules
