use Rattle.std.proofs.Common.{rules}
use Rattle.quic_bench.proofs.parsers.SelfSizedConnectionIdParser.parse.Goals as goal

pub returns-then-size-eq0-clause-parsed : goal.returns-then-size-eq0-clause-parsed
returns-then-size-eq0-clause-parsed c = search rules
