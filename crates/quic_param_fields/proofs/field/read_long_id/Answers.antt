use Rattle.quic_param_fields.proofs.Reading.{id_taken}
use Rattle.quic_param_fields.proofs.field.read_long_id.Goals as goal

pub returns-clause-ok : goal.returns-clause-ok
returns-clause-ok c =
    id_taken c.args.bytes.now c.in-Some.rest.now c.in-Some.n.now c.from-n.result c.in-Some.ensures.cases.0
    (λ i. (c.type_inv.bytes i).fits) c.from-n.ensures c.if-n-gt-MAX_CID_SIZE.false c.if-rest-n.false
