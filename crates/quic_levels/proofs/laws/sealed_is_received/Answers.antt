-- By induction on the run.
use Rattle.quic_levels.proofs.Runs.{expected_is, sealed_after, without_foreign}
use Rattle.quic_levels.proofs.laws.sealed_is_received.Goals as goal

pub returns-clause-next : goal.returns-clause-next
returns-clause-next c = expected_is

pub returns-clause-opens : goal.returns-clause-opens
returns-clause-opens c = sealed_after

pub returns-clause-foreign : goal.returns-clause-foreign
returns-clause-foreign c = without_foreign
