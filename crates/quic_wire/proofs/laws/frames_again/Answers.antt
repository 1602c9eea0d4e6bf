use Rattle.std.specs.Prelude.{false}
use Rattle.quic_wire.proofs.Again.{read_again}
use Rattle.quic_wire.proofs.laws.frames_again.Goals as goal

pub returns : goal.returns
returns c = λ strict frames payload some is.
    read_again strict frames payload (c.one_reading.ensures.frames false) c.one_least.ensures.strict is
    (c.written_is_least.ensures frames payload some is)
