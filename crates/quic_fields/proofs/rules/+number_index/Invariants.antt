use Rattle.std.proofs.Common.{length}
use Rattle.quic_fields.proofs.rules.+number_index.Given as goal

abbrev pub decreases-number_index : goal.decreases-number_index
decreases-number_index l = length l.kinds.now
