use Rattle.quic_base.specs.ConnectionIdOrder.{id_total}
use Rattle.quic_base.proofs.LongIds.{id_tied}
use Rattle.quic_base.proofs.laws.connection_ids.Goals as goal

pub returns-clause-total : goal.returns-clause-total
returns-clause-total c = id_total

pub returns-clause-ties : goal.returns-clause-ties
returns-clause-ties c = id_tied
