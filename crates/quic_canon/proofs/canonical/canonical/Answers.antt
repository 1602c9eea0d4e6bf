use Rattle.std.proofs.Common.{rules}
use Rattle.quic_canon.proofs.canonical.canonical.Goals as goal

pub returns-in-Err-clause-kept : goal.returns-in-Err-clause-kept
returns-in-Err-clause-kept c = search rules

pub returns-then-is_err-clause-kept : goal.returns-then-is_err-clause-kept
returns-then-is_err-clause-kept c = search rules

pub returns-clause-ok : goal.returns-clause-ok
returns-clause-ok c = search rules
