-- An allocation fails, as an error for the packet that was cut.
use Rattle.std.specs.Prelude.{◌≡◌, MatchOption, Option, None, Some}
use Rattle.std.proofs.Common.{refl}
use Rattle.quic_base.specs.declared.ids.SpaceId.{SpaceId}
use Rattle.quic_header_decode.specs.Datagram.{CutPacket}
use Rattle.quic_header_decode.specs.Headers.{space_of}
use Rattle.quic_packets.specs.declared.opening.OpenError.{OpenError}
use Rattle.quic_packets.specs.declared.opening.OpenError.TheVariants as refused
use Rattle.quic_packets.specs.Opening.{Opening, RefusesPacket}

out_of_memory : (o : Option SpaceId)
    → MatchOption o (let e : OpenError = refused.OutOfMemory in e ≡ refused.OutOfMemory) (λ space. Unit {0})
out_of_memory None = refl
out_of_memory (Some space) = tt

pub memory_refused : (opening : Opening) (packet : CutPacket)
    → RefusesPacket opening.keys opening.expected packet refused.OutOfMemory
memory_refused opening packet = out_of_memory (space_of packet.head)
