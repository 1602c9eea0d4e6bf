use Rattle.quic_params.proofs.Further.{in_order_once, of_record}
use Rattle.quic_params.proofs.laws.entries.Goals as goal

pub returns-clause-one : goal.returns-clause-one
returns-clause-one c = in_order_once

pub returns-clause-record : goal.returns-clause-record
returns-clause-record c = of_record
