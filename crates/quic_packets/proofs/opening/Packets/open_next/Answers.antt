-- By the call that opens a packet.
use Rattle.std.proofs.Common.{◌≡◌, Some}
use Rattle.quic_packets.proofs.Nexts.{next_of, reached_less}
use Rattle.quic_packets.proofs.Openings.{opening_of}
use Rattle.quic_packets.proofs.opening.Packets.open_next.Goals as goal

pub returns-clause-next : goal.returns-clause-next
returns-clause-next g c =
    let a = c.args in
    let o = a.options.now in
    let is : a.self.now.rest ≡ Some c.in_ok-bytes.bytes = cc in
    let next = c.open_first-opened in
    next_of (opening_of g.H.HeaderKey g.P.PacketKey g.C.ConnectionIdParser a.keys.now o.parser.now o.versions.now
    o.grease a.expected.now) (Some next.result.0) next.result.1 is next.ensures.next

pub returns-clause-shorter : goal.returns-clause-shorter
returns-clause-shorter g c = λ some.
    let is : c.args.self.now.rest ≡ Some c.in_ok-bytes.bytes = cc in
    let next = c.open_first-opened in
    reached_less next.result.1 is next.ensures.shorter
