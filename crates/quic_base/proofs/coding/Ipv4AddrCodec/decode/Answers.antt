use Rattle.std.proofs.Common.{arith}
use Rattle.std.proofs.lemmas.Grind.{common_steps}
use Rattle.quic_base.proofs.coding.Ipv4AddrCodec.decode.Goals as goal

pub returns-in_err-get_array-clause-cut : goal.returns-in_err-get_array-clause-cut
returns-in_err-get_array-clause-cut c = grind (arith, common_steps)
