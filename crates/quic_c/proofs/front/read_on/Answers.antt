use Rattle.quic_c.proofs.ReadingOn.{reads_on}
use Rattle.quic_c.proofs.front.read_on.Goals as goal

pub returns : goal.returns
returns c = reads_on
