use Rattle.quic_c_write.proofs.Meanings.{one_meaning}
use Rattle.quic_c_write.proofs.write.one_frame.Goals as goal

pub returns : goal.returns
returns c = one_meaning
