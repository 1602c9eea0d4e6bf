use Rattle.std.proofs.Common.{arith, rules}
use Rattle.quic_header_decode.specs.Reading.{long_at, typed_at}
use Rattle.std.proofs.lemmas.Grind.{common_steps}
use Rattle.quic_header_decode.proofs.protected.ProtectedHeader.read_long.Goals as goal

pub returns-then-not-contains-clause-exact : goal.returns-then-not-contains-clause-exact
unfolding long_at typed_at
returns-then-not-contains-clause-exact c = search rules

pub returns-in-Retry-clause-exact : goal.returns-in-Retry-clause-exact
unfolding long_at typed_at
returns-in-Retry-clause-exact c = search rules

pub returns-in_default-read_var-clause-exact : goal.returns-in_default-read_var-clause-exact
unfolding long_at typed_at
returns-in_default-read_var-clause-exact c = search rules

pub returns-in-Standard-clause-exact : goal.returns-in-Standard-clause-exact
unfolding long_at typed_at
returns-in-Standard-clause-exact c = search rules

pub returns-in_default-read_var-2-clause-exact : goal.returns-in_default-read_var-2-clause-exact
unfolding long_at typed_at
returns-in_default-read_var-2-clause-exact c = search rules

pub returns-then-token_len-remaining-clause-exact : goal.returns-then-token_len-remaining-clause-exact
unfolding long_at typed_at
returns-then-token_len-remaining-clause-exact c = search rules

pub returns-in_default-read_var-3-clause-exact : goal.returns-in_default-read_var-3-clause-exact
unfolding long_at typed_at
returns-in_default-read_var-3-clause-exact c = search rules

pub returns-clause-exact : goal.returns-clause-exact
unfolding long_at typed_at
returns-clause-exact c = search rules

pub new-requires-2 : goal.new-requires-2
new-requires-2 c = grind (arith, common_steps)

pub new-requires-in-Standard : goal.new-requires-in-Standard
new-requires-in-Standard c = grind (arith, common_steps)

pub returns-clause-memory : goal.returns-clause-memory
returns-clause-memory c = grind (arith, common_steps)

pub returns-in-Retry-clause-memory : goal.returns-in-Retry-clause-memory
returns-in-Retry-clause-memory c = grind (arith, common_steps)

pub returns-in-Standard-clause-memory : goal.returns-in-Standard-clause-memory
returns-in-Standard-clause-memory c = grind (arith, common_steps)

pub returns-in_default-read_var-2-clause-memory : goal.returns-in_default-read_var-2-clause-memory
returns-in_default-read_var-2-clause-memory c = grind (arith, common_steps)

pub returns-in_default-read_var-3-clause-memory : goal.returns-in_default-read_var-3-clause-memory
returns-in_default-read_var-3-clause-memory c = grind (arith, common_steps)

pub returns-in_default-read_var-clause-memory : goal.returns-in_default-read_var-clause-memory
returns-in_default-read_var-clause-memory c = grind (arith, common_steps)

pub returns-then-token_len-remaining-clause-memory : goal.returns-then-token_len-remaining-clause-memory
returns-then-token_len-remaining-clause-memory c = grind (arith, common_steps)
