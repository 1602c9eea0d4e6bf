use Rattle.quic_header_decode.proofs.RfcPackets.{one_packet, only_packet}
use Rattle.quic_header_decode.proofs.laws.rfc_packets.Goals as goal

pub returns-clause-one : goal.returns-clause-one
returns-clause-one c = one_packet

pub returns-clause-only : goal.returns-clause-only
returns-clause-only c = only_packet
