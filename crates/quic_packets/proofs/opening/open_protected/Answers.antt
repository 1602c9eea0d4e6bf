-- A packet without its protection: its number is in range, and the key opens it or not.
use Rattle.std.proofs.Common.{rules, ◌≡◌, length, ◌++◌, Option, Some, refl, subst}
use Rattle.std.specs.Prelude.{MatchOption}
use Rattle.quic_crypto.specs.declared.packet_number.PacketNumber.{PacketNumber}
use Rattle.quic_crypto.specs.PacketNumbers.{IsInRange}
use Rattle.quic_header_encode.specs.Kinds.{number_in}
use Rattle.quic_packets.proofs.Opened.{opened_number}
use Rattle.quic_packets.proofs.opening.open_protected.Goals as goal

pub expand-number-requires-clause-valid : goal.expand-number-requires-clause-valid
expand-number-requires-clause-valid g c =
    let packet = c.in-Ok.packet in
    let is : number_in packet.header ≡ Some c.unwrap.result = search rules in
    subst (λ (number : Option PacketNumber). MatchOption number ⊥ IsInRange) is
    (opened_number c.args.partial.head c.args.partial.header_end packet.header
    (packet.header_data ++ packet.payload.items) (length packet.header_data) c.in-Ok.ensures.opened)

pub returns-in-Ok-decrypt-clause-opened : goal.returns-in-Ok-decrypt-clause-opened
returns-in-Ok-decrypt-clause-opened g c =
    let packet = c.in-Ok.packet in
    record {
      unlocked = record {
        header = packet.header;
        header_bytes = packet.header_data;
        sealed_payload = packet.payload.items;
        number = c.expand-number.result;
      };
      unlocks = record {
        sample = c.in-Ok.ensures.sample;
        whole = c.in-Ok.ensures.unprotected;
        is_header = c.in-Ok.ensures.opened;
        number = search rules;
      };
      header = refl;
      header_bytes = refl;
      number = refl;
      payload = search rules;
    }

pub returns-in-Err-decrypt-clause-refused : goal.returns-in-Err-decrypt-clause-refused
returns-in-Err-decrypt-clause-refused g c =
    let packet = c.in-Ok.packet in (
      record {
        header = packet.header;
        header_bytes = packet.header_data;
        sealed_payload = packet.payload.items;
        number = c.expand-number.result;
      },
      record {
        sample = c.in-Ok.ensures.sample;
        whole = c.in-Ok.ensures.unprotected;
        is_header = c.in-Ok.ensures.opened;
        number = search rules;
      },
      search rules,
    )
