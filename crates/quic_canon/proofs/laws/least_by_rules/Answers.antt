use Rattle.std.specs.Prelude.{false}
use Rattle.quic_canon.proofs.ByRules.{least_kept}
use Rattle.quic_canon.proofs.laws.least_by_rules.Goals as goal

pub returns : goal.returns
returns c = λ rules frames payload least is l.
    least_kept rules frames payload least (c.one_reading.ensures.frames false) c.one_reading.ensures.relaxed
    c.one_least.ensures.values (c.one_least.ensures.strict payload least l) is l
