use Rattle.std.proofs.Common.{rules}
use Rattle.quic_header_encode.proofs.header.Header.encode.Goals as goal

pub returns-then-is_err-clause-err : goal.returns-then-is_err-clause-err
returns-then-is_err-clause-err c = search rules

pub returns-then-is_err-clause-spare : goal.returns-then-is_err-clause-spare
returns-then-is_err-clause-spare c = search rules

pub returns-clause-places : goal.returns-clause-places
returns-clause-places c = search rules
