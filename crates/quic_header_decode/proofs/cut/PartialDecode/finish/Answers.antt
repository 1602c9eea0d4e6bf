use Rattle.std.proofs.Common.{arith}
use Rattle.std.proofs.lemmas.Grind.{common_steps}
use Rattle.quic_header_decode.proofs.cut.PartialDecode.finish.Goals as goal

pub returns-else-is_some-clause-plain : goal.returns-else-is_some-clause-plain
returns-else-is_some-clause-plain g c = grind (arith, common_steps)

pub returns-else-is_some-clause-refused : goal.returns-else-is_some-clause-refused
returns-else-is_some-clause-refused g c = grind (arith, common_steps)

pub returns-else-is_some-clause-refused_plain : goal.returns-else-is_some-clause-refused_plain
returns-else-is_some-clause-refused_plain g c = grind (arith, common_steps)

pub returns-else-is_some-clause-sample : goal.returns-else-is_some-clause-sample
returns-else-is_some-clause-sample g c = grind (arith, common_steps)

pub returns-else-is_some-clause-unprotected : goal.returns-else-is_some-clause-unprotected
returns-else-is_some-clause-unprotected g c = grind (arith, common_steps)

pub returns-then-is_some-clause-plain : goal.returns-then-is_some-clause-plain
returns-then-is_some-clause-plain g c = grind (arith, common_steps)

pub returns-then-is_some-clause-refused : goal.returns-then-is_some-clause-refused
returns-then-is_some-clause-refused g c = grind (arith, common_steps)

pub returns-then-is_some-clause-refused_plain : goal.returns-then-is_some-clause-refused_plain
returns-then-is_some-clause-refused_plain g c = grind (arith, common_steps)

pub returns-then-is_some-clause-sample : goal.returns-then-is_some-clause-sample
returns-then-is_some-clause-sample g c = grind (arith, common_steps)

pub returns-then-is_some-clause-unprotected : goal.returns-then-is_some-clause-unprotected
returns-then-is_some-clause-unprotected g c = grind (arith, common_steps)
