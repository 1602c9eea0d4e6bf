use Rattle.std.proofs.Common.{subst}
use Rattle.quic_base.specs.Number.{AreBytes}
use Rattle.quic_header_decode.specs.Reading.{read_by}
use Rattle.quic_wire.proofs.Cuts.{returns_cut, takes_within}
use Rattle.quic_wire.proofs.calls.cut_first.Goals as goal

pub returns-clause-one : goal.returns-clause-one
returns-clause-one g c =
    let options = read_by (g.P.ConnectionIdParser.parsed c.args.options.now.parser.now) c.args.options.now.versions.now c.args.options.now.grease in
    let bytes : AreBytes c.args.datagram.items = subst AreBytes c.as_slice.ensures c.are_bytes.ensures in
    let one =
    c.every_datagram.ensures options c.args.datagram.items bytes
    (takes_within options (g.met.P.ConnectionIdParser.lawful c.args.options.now.parser.now)) in
    returns_cut options _ c.args.datagram.items c.new.result one c.new.ensures.cut c.new.ensures.refused
