use Rattle.std.proofs.Common.{length}
use Rattle.quic_param_fields.proofs.field.+walk.Given as goal

abbrev pub decreases-walk : goal.decreases-walk
decreases-walk l = length l.kinds.now
