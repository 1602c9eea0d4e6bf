use Rattle.quic_wire.proofs.AllowedPackets.{negotiation_allowed, one_packet, packet_allowed, packet_read}
use Rattle.quic_wire.proofs.rfc.rfc_packets.Goals as goal

pub returns-clause-only : goal.returns-clause-only
returns-clause-only c = λ options datagram h other p q p' q' fits.
    one_packet options datagram h other p q p' q'
    (λ one another is is'. c.rfc_packets.ensures.only options datagram one another fits is is')

pub returns-clause-allowed : goal.returns-clause-allowed
returns-clause-allowed c = packet_allowed

pub returns-clause-read : goal.returns-clause-read
returns-clause-read c = packet_read

pub returns-clause-negotiation : goal.returns-clause-negotiation
returns-clause-negotiation c = λ options datagram h p q is. (negotiation_allowed options datagram h p q is, λ allowed. allowed.cut)
