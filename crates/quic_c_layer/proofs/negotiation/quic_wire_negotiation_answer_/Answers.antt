use Rattle.std.proofs.Common.{refl}
use Rattle.quic_c_layer.proofs.negotiation.quic_wire_negotiation_answer_.Goals as goal

pub returns-in-None-clause-none : goal.returns-in-None-clause-none
returns-in-None-clause-none c = λ _ version dst src rest is other.
    c.in-None.ensures.none refl version dst src rest is other
