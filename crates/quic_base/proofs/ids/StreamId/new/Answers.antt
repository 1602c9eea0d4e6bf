use Rattle.std.proofs.Common.{rules}
use Rattle.quic_base.proofs.ids.StreamId.new.Goals as goal

pub returns-clause-number : goal.returns-clause-number
returns-clause-number c = search rules

pub returns-clause-dir : goal.returns-clause-dir
returns-clause-dir c = search rules

pub returns-clause-index : goal.returns-clause-index
returns-clause-index c = search rules
