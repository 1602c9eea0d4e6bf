use Rattle.quic_versions.proofs.Stored.{one_form, read_one}
use Rattle.quic_versions.proofs.laws.versions.Goals as goal

pub returns-clause-read : goal.returns-clause-read
returns-clause-read c = read_one

pub returns-clause-stored : goal.returns-clause-stored
returns-clause-stored c = one_form
