-- By the one row of packets that reading finds.
use Rattle.std.proofs.Common.{List, Option, ap}
use Rattle.quic_header_decode.specs.Datagram.{PlacedPacket, packets_in}
use Rattle.quic_header_decode.specs.Refusal.{Refusal}
use Rattle.quic_header_decode.proofs.Datagrams.{packets_again, packets_found}
use Rattle.quic_text.specs.DatagramText.{with_ids_of, row_lines}
use Rattle.quic_text.specs.IdLens.{count}
use Rattle.quic_text.proofs.DatagramLines.{fixed_takes}
use Rattle.quic_text.proofs.laws.packets_printed.Goals as goal

pub returns-clause-lines : goal.returns-clause-lines
returns-clause-lines c = λ len bytes packets refusal fits are.
    ap (λ (r : List PlacedPacket × Option Refusal). row_lines r.0 r.1)
    (packets_again (with_ids_of (count len)) bytes packets refusal fits are)

pub returns-clause-some : goal.returns-clause-some
returns-clause-some c = λ len bytes fits. (
  (packets_in (with_ids_of (count len)) bytes).0,
  (packets_in (with_ids_of (count len)) bytes).1,
  packets_found (with_ids_of (count len)) bytes fits (fixed_takes (count len)),
)
