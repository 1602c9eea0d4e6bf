use Rattle.quic_header_fields.proofs.After.{some_after, one_after, row_after}
use Rattle.quic_header_fields.proofs.laws.one_list_after_a_header.Goals as goal

pub returns-clause-exists : goal.returns-clause-exists
returns-clause-exists c = some_after

pub returns-clause-one : goal.returns-clause-one
returns-clause-one c = one_after

pub returns-clause-row : goal.returns-clause-row
returns-clause-row c = row_after
