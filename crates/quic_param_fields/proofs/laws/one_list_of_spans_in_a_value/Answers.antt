use Rattle.quic_param_fields.proofs.Faults.{spans_of_value}
use Rattle.quic_param_fields.proofs.Values.{value_of_spans, one_list, in_row}
use Rattle.quic_param_fields.proofs.laws.one_list_of_spans_in_a_value.Goals as goal

pub returns-clause-exists : goal.returns-clause-exists
returns-clause-exists c = spans_of_value

pub returns-clause-values : goal.returns-clause-values
returns-clause-values c = value_of_spans

pub returns-clause-one : goal.returns-clause-one
returns-clause-one c = one_list

pub returns-clause-row : goal.returns-clause-row
returns-clause-row c = in_row
