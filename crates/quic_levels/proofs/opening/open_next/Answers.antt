-- By the call that opens a packet.
use Rattle.std.proofs.Common.{◌≡◌, Some}
use Rattle.quic_levels.proofs.LevelBack.{next_of}
use Rattle.quic_levels.proofs.Protections.{opening_of}
use Rattle.quic_packets.proofs.Nexts.{reached_less}
use Rattle.quic_levels.proofs.opening.open_next.Goals as goal

pub returns-clause-next : goal.returns-clause-next
returns-clause-next g c =
    let a = c.args in
    let o = a.options.now in
    let is : a.packets.now.rest ≡ Some c.in_ok-bytes.bytes = cc in
    let next = c.open_first-opened in
    next_of (opening_of g.H.HeaderKey g.P.PacketKey g.C.ConnectionIdParser a.keys.now o.parser.now o.versions.now o.grease)
    a.expected.now (Some next.result.0) next.result.1 is next.ensures.next

pub returns-clause-shorter : goal.returns-clause-shorter
returns-clause-shorter g c = λ some.
    let is : c.args.packets.now.rest ≡ Some c.in_ok-bytes.bytes = cc in
    let next = c.open_first-opened in
    reached_less next.result.1 is next.ensures.shorter
