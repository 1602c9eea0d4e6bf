use Rattle.quic_header_decode.proofs.Wide.{read_sole}
use Rattle.quic_header_decode.proofs.laws.one_reading.Goals as goal

pub returns : goal.returns
returns c = read_sole
