use Rattle.std.specs.Prelude.{true}
use Rattle.quic_text.proofs.CanonLines.{least_printed, broken_printed, plain_frames}
use Rattle.quic_text.proofs.laws.canonical_printed.Goals as goal

pub returns-clause-least : goal.returns-clause-least
returns-clause-least c = λ payload least l. least_printed payload least c.one_least.ensures.exists l

pub returns-clause-broken : goal.returns-clause-broken
returns-clause-broken c = broken_printed

pub returns-clause-strict : goal.returns-clause-strict
returns-clause-strict c =
    λ payload least l. let f = c.one_least.ensures.strict payload least l in plain_frames true f.0 least l.same.some f.1
