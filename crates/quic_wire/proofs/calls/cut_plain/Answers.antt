use Rattle.quic_header_decode.specs.Reading.{read_by}
use Rattle.quic_wire.proofs.Written.{plain_cut, plain_refused}
use Rattle.quic_wire.proofs.calls.cut_plain.Goals as goal

pub returns-in-Ok-clause-plain : goal.returns-in-Ok-clause-plain
returns-in-Ok-clause-plain g c =
    let options = read_by (g.P.ConnectionIdParser.parsed c.args.options.now.parser.now) c.args.options.now.versions.now c.args.options.now.grease in
    plain_cut options c.args.datagram.items c.in-Ok.packet (c.headers_again.ensures.plain options) c.in-Ok.ensures.one

pub returns-in-Err-clause-plain : goal.returns-in-Err-clause-plain
returns-in-Err-clause-plain g c =
    let options = read_by (g.P.ConnectionIdParser.parsed c.args.options.now.parser.now) c.args.options.now.versions.now c.args.options.now.grease in
    plain_refused options c.args.datagram.items c.in-Err.e (c.headers_again.ensures.plain options) c.in-Err.ensures.one
