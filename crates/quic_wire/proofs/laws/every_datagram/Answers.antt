use Rattle.quic_header_decode.specs.Reading.{cut_at}
use Rattle.quic_wire.proofs.laws.every_datagram.Goals as goal

pub returns : goal.returns
returns c = λ options bytes fits takes.
    let found = c.one_answer.ensures.cut_found options bytes fits takes in
    record {
      it = cut_at options bytes;
      is = found;
      only = λ other is. c.one_answer.ensures.cut options bytes other (cut_at options bytes) fits is found;
    }
