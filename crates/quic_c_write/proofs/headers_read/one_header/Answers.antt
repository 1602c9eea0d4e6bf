use Rattle.quic_c_write.proofs.HeaderOnce.{given}
use Rattle.quic_c_write.proofs.headers_read.one_header.Goals as goal

pub returns : goal.returns
returns c = λ rules bytes header count before after result begins kept answers.
    let g = given rules bytes header count before after result begins kept answers in (g.counted, g.shown)
