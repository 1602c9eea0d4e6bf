use Rattle.quic_param_fields.proofs.Faults.{reported}
use Rattle.quic_param_fields.proofs.Values.{never_both, one_fault}
use Rattle.quic_param_fields.proofs.laws.one_field_at_fault_in_a_value.Goals as goal

pub returns-clause-none : goal.returns-clause-none
returns-clause-none c = never_both

pub returns-clause-one : goal.returns-clause-one
returns-clause-one c = one_fault

pub returns-clause-reported : goal.returns-clause-reported
returns-clause-reported c = reported
