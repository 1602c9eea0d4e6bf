-- The number that is read is in range.
use Rattle.std.proofs.Common.{rules, ◌≡◌, length, ◌++◌, Option, Some, subst}
use Rattle.std.specs.Prelude.{MatchOption}
use Rattle.quic_crypto.specs.declared.packet_number.PacketNumber.{PacketNumber}
use Rattle.quic_crypto.specs.PacketNumbers.{IsInRange}
use Rattle.quic_header_encode.specs.Kinds.{number_in}
use Rattle.quic_packets.proofs.Opened.{opened_number}
use Rattle.quic_levels.proofs.opening.unlock.Goals as goal

pub expand-number-requires-clause-valid : goal.expand-number-requires-clause-valid
expand-number-requires-clause-valid g c =
    let packet = c.in-Ok.packet in
    let is : number_in packet.header ≡ Some c.unwrap.result = search rules in
    subst (λ (number : Option PacketNumber). MatchOption number ⊥ IsInRange) is
    (opened_number c.args.partial.head c.args.partial.header_end packet.header
    (packet.header_data ++ packet.payload.items) (length packet.header_data) c.in-Ok.ensures.opened)

pub returns-clause-unlocked : goal.returns-clause-unlocked
returns-clause-unlocked g c = record {
  sample = c.in-Ok.ensures.sample;
  whole = c.in-Ok.ensures.unprotected;
  is_header = c.in-Ok.ensures.opened;
  number = search rules;
}
