use Rattle.std.proofs.Common.{rules}
use Rattle.quic_c_params.proofs.show.show.Goals as goal

pub returns : goal.returns
returns c = search rules
