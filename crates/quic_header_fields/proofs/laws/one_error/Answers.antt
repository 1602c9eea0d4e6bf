use Rattle.quic_header_fields.proofs.HeaderLaws.{no_header_with_spans, no_header_read, refused_somewhere}
use Rattle.quic_header_fields.proofs.laws.one_error.Goals as goal

pub returns-clause-read : goal.returns-clause-read
returns-clause-read c = no_header_with_spans

pub returns-clause-reported : goal.returns-clause-reported
returns-clause-reported c = no_header_read

pub returns-clause-refused : goal.returns-clause-refused
returns-clause-refused c = refused_somewhere
