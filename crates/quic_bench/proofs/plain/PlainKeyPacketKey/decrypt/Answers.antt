use Rattle.std.proofs.Common.{rules}
use Rattle.quic_bench.proofs.plain.PlainKeyPacketKey.decrypt.Goals as goal

pub returns : goal.returns
returns c = search rules
