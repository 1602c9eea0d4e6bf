use Rattle.std.specs.Prelude.{None}
use Rattle.quic_wire.proofs.laws.every_payload.Goals as goal

pub returns : goal.returns
returns c = λ strict bytes fits. c.one_reading.ensures.one strict None bytes fits
