use Rattle.quic_base.specs.Varint.{Encodes, shortest_varint}
use Rattle.quic_base.proofs.PublicLaws.{reads_back, encodes_unique, shortest_encodes}
use Rattle.quic_callers.proofs.client.read_back.Goals as goal

pub returns : goal.returns
returns c =
    let encoded = shortest_encodes c.args.n c.requires.small in
    (reads_back Encodes c.get_var.result c.args.n _ (shortest_varint c.args.n) c.args.rest.now _ encodes_unique encoded
    c.requires.stands c.get_var.ensures.ok c.get_var.ensures.cut).0
