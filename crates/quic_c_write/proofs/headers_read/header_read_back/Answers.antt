use Rattle.quic_c_write.proofs.HeaderBack.{read_back}
use Rattle.quic_c_write.proofs.headers_read.header_read_back.Goals as goal

pub returns : goal.returns
returns c = read_back
