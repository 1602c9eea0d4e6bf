use Rattle.std.proofs.Common.{rules}
use Rattle.quic_params.proofs.error.Transport_errorErrorFromError.from.Goals as goal

pub returns-in-IllegalValue : goal.returns-in-IllegalValue
returns-in-IllegalValue c = search rules
