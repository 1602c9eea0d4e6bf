use Rattle.std.proofs.Common.{arith, rules}
use Rattle.std.proofs.lemmas.Grind.{common_steps}
use Rattle.quic_frame_fields.proofs.frame.stream_meta.encode_header.Goals as goal

pub returns-in-0-None : goal.returns-in-0-None
returns-in-0-None g c = search rules

pub returns-in-0-Some : goal.returns-in-0-Some
returns-in-0-Some g c = grind (arith, common_steps)

pub returns-in_default-None : goal.returns-in_default-None
returns-in_default-None g c = grind (arith, common_steps)

pub returns-in_default-Some : goal.returns-in_default-Some
returns-in_default-Some g c = grind (arith, common_steps)
