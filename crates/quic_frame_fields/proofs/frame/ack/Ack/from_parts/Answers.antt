use Rattle.std.proofs.Common.{arith, rules}
use Rattle.quic_frame_fields.proofs.Blocks.{acked}
use Rattle.quic_frame_fields.proofs.frame.ack.Ack.from_parts.Goals as goal

pub invariant_of-result : goal.invariant_of-result
invariant_of-result c = search rules

pub returns-in-Err-Malformed-clause-refused : goal.returns-in-Err-Malformed-clause-refused
returns-in-Err-Malformed-clause-refused c = search rules

pub returns-in-Err : goal.returns-in-Err
returns-in-Err c = search rules

pub returns-in-Ok-clause-ranges : goal.returns-in-Ok-clause-ranges
returns-in-Ok-clause-ranges c = grind (arith, acked)
