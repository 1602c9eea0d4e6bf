use Rattle.std.proofs.Common.{arith}
use Rattle.std.proofs.lemmas.Grind.{common_steps}
use Rattle.quic_header_decode.proofs.fields.read_id.Goals as goal

pub pass-requires-clause-enough : goal.pass-requires-clause-enough
pass-requires-clause-enough c = grind (arith, common_steps)

pub returns-clause-read : goal.returns-clause-read
returns-clause-read c = grind (arith, common_steps)

pub returns-clause-short : goal.returns-clause-short
returns-clause-short c = grind (arith, common_steps)

pub slice_bounds-result-end : goal.slice_bounds-result-end
slice_bounds-result-end c = grind (arith, common_steps)
