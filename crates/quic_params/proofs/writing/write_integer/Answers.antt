use Rattle.std.proofs.Common.{rules}
use Rattle.quic_params.proofs.writing.write_integer.Goals as goal

pub returns-in-Integer : goal.returns-in-Integer
returns-in-Integer g c = search rules

pub returns-in_default : goal.returns-in_default
returns-in_default g c = search rules
