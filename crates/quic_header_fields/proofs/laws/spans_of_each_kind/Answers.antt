use Rattle.quic_header_fields.proofs.EachKind.{each_kind, unknown_version}
use Rattle.quic_header_fields.proofs.laws.spans_of_each_kind.Goals as goal

pub returns-clause-headers : goal.returns-clause-headers
returns-clause-headers c = each_kind

pub returns-clause-unknown : goal.returns-clause-unknown
returns-clause-unknown c = unknown_version
