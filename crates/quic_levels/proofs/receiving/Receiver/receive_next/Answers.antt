-- By the call that opens a packet, with the numbers that the receiver expects.
use Rattle.std.specs.Prelude.{Some}
use Rattle.std.proofs.Common.{subst}
use Rattle.quic_packets.specs.declared.keys.Expected.{Expected}
use Rattle.quic_levels.specs.Opening.{NextAnswer}
use Rattle.quic_levels.proofs.Protections.{opening_of}
use Rattle.quic_levels.proofs.receiving.Receiver.receive_next.Goals as goal

pub returns-clause-next : goal.returns-clause-next
returns-clause-next g c =
    let a = c.args in
    let o = a.options.now in
    subst (λ (e : Expected). NextAnswer
    (opening_of g.H.HeaderKey g.P.PacketKey g.C.ConnectionIdParser a.keys.now o.parser.now o.versions.now o.grease) e
    a.packets.now.rest (Some c.in_ok-answer.answer) c.open_next.new.packets.rest) c.self.view_is c.in_ok-answer.ensures.next
