use Rattle.quic_header_decode.specs.Places.{any_fixed}
use Rattle.quic_header_fields.proofs.HeaderLaws.{header_with_spans, header_without, one_list, header_in_row}
use Rattle.quic_header_fields.proofs.laws.one_list_of_spans.Goals as goal

pub returns-clause-exists : goal.returns-clause-exists
returns-clause-exists c = λ id_len versions. header_with_spans (any_fixed id_len versions)

pub returns-clause-headers : goal.returns-clause-headers
returns-clause-headers c = header_without

pub returns-clause-one : goal.returns-clause-one
returns-clause-one c = one_list

pub returns-clause-row : goal.returns-clause-row
returns-clause-row c = λ id_len versions. header_in_row (any_fixed id_len versions)
