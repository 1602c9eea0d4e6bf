use Rattle.quic_params.proofs.Lengths.{for_below}
use Rattle.quic_params.proofs.record.TransportParameters.write_one_into.Goals as goal

pub returns-clause-few : goal.returns-clause-few
returns-clause-few c = for_below c.args.self.now c.type_bounds-2.ensures c.args.id
