-- What was read is what the grammar says.
use Rattle.quic_header_decode.specs.Places.{seen_in}
use Rattle.quic_header_decode.proofs.Wide.{read_answer}
use Rattle.quic_header_decode.proofs.places.read_header.Goals as goal

pub returns-clause-answer : goal.returns-clause-answer
returns-clause-answer c =
    read_answer c.args.id_len c.args.versions.now c.args.bytes.now c.are_bytes.ensures
    (seen_in c.args.bytes.now c.scan_header.result) c.scan_header.ensures.exact
