use Rattle.std.proofs.Common.{rules}
use Rattle.quic_canon.proofs.canonical.CanonBytes.bytes.Goals as goal

pub returns-in-Same : goal.returns-in-Same
returns-in-Same c = search rules
