use Rattle.quic_header_encode.proofs.Later.{finished_later, set_later}
use Rattle.quic_header_encode.proofs.laws.length_later.Goals as goal

pub returns-clause-finished : goal.returns-clause-finished
returns-clause-finished c = finished_later

pub returns-clause-set : goal.returns-clause-set
returns-clause-set c = λ h first width body has. set_later h first width body has
