use Rattle.std.proofs.Common.{rules}
use Rattle.quic_errors.proofs.invalid_frame.error_of.Goals as goal

pub returns : goal.returns
returns c = search rules
