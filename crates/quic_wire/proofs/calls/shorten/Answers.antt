use Rattle.quic_wire.proofs.Shortest.{appends_shortest}
use Rattle.quic_wire.proofs.calls.shorten.Goals as goal

pub returns-clause-one : goal.returns-clause-one
returns-clause-one c =
    appends_shortest c.canonical.result c.args.out.now.items c.canonical.new.out.items c.args.payload.now
    c.one_shortest.ensures.one c.one_shortest.ensures.none c.canonical.ensures.ok
