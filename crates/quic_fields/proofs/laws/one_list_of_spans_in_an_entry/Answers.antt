use Rattle.quic_fields.proofs.Entries.{entry_with_spans, entry_is, one_entry_at}
use Rattle.quic_fields.proofs.laws.one_list_of_spans_in_an_entry.Goals as goal

pub returns-clause-exists : goal.returns-clause-exists
returns-clause-exists c = entry_with_spans

pub returns-clause-entries : goal.returns-clause-entries
returns-clause-entries c = entry_is

pub returns-clause-one : goal.returns-clause-one
returns-clause-one c = one_entry_at
