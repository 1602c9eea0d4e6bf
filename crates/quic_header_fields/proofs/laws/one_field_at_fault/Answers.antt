use Rattle.quic_header_fields.proofs.HeaderLaws.{no_header_somewhere, never_both, one_stop}
use Rattle.quic_header_fields.proofs.laws.one_field_at_fault.Goals as goal

pub returns-clause-exists : goal.returns-clause-exists
returns-clause-exists c = no_header_somewhere

pub returns-clause-none : goal.returns-clause-none
returns-clause-none c = never_both

pub returns-clause-one : goal.returns-clause-one
returns-clause-one c = one_stop
