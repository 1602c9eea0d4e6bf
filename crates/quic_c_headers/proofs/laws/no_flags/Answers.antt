use Rattle.quic_c_headers.proofs.RfcFlags.{plain_same}
use Rattle.quic_c_headers.proofs.laws.no_flags.Goals as goal

pub returns : goal.returns
returns c = plain_same
