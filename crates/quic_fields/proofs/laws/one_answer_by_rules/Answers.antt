use Rattle.quic_fields.proofs.RuleLaws.{answered, not_refused, one_list_by, one_refusal}
use Rattle.quic_fields.proofs.laws.one_answer_by_rules.Goals as goal

pub returns-clause-some : goal.returns-clause-some
returns-clause-some c = answered

pub returns-clause-not_both : goal.returns-clause-not_both
returns-clause-not_both c = not_refused

pub returns-clause-one_list : goal.returns-clause-one_list
returns-clause-one_list c = one_list_by

pub returns-clause-one_fault : goal.returns-clause-one_fault
returns-clause-one_fault c = one_refusal
