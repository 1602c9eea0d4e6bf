-- What was read is what the grammar says.
use Rattle.quic_header_decode.specs.Places.{seen_in}
use Rattle.quic_header_decode.proofs.Wide.{long_answer}
use Rattle.quic_header_decode.proofs.places.read_long.Goals as goal

pub returns-clause-answer : goal.returns-clause-answer
returns-clause-answer c = λ id_len.
    long_answer id_len c.args.versions.now c.args.bytes.now c.args.first c.are_bytes.ensures (seen_in c.args.bytes.now c.scan_long.result)
    c.requires.begins c.requires.long c.scan_long.ensures.exact
