use Rattle.std.proofs.Common.{arith}
use Rattle.std.proofs.lemmas.Grind.{common_steps}
use Rattle.quic_params.proofs.reading.read_value.Goals as goal

pub returns-then-len-chunk-clause-ok : goal.returns-then-len-chunk-clause-ok
returns-then-len-chunk-clause-ok g c = grind (arith, common_steps)

pub returns-in-Err-clause-err : goal.returns-in-Err-clause-err
returns-in-Err-clause-err g c = grind (arith, common_steps)
