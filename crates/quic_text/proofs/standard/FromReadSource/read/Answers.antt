use Rattle.std.proofs.Common.{rules}
use Rattle.quic_text.proofs.standard.FromReadSource.read.Goals as goal

pub returns-then-not-is_empty-clause-bytes : goal.returns-then-not-is_empty-clause-bytes
returns-then-not-is_empty-clause-bytes g c = search rules

pub returns-else-count-eq0-clause-bytes : goal.returns-else-count-eq0-clause-bytes
returns-else-count-eq0-clause-bytes g c = search rules
