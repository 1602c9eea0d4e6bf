use Rattle.std.proofs.Common.{length}
use Rattle.quic_params.proofs.Refusals.{Search}
use Rattle.quic_params.proofs.refusal.last_entry.Given as goal

abbrev pub invariant-entries : goal.invariant-entries
invariant-entries l = Search l.number l.list l.rest l.found

abbrev pub decreases-entries : goal.decreases-entries
decreases-entries l = length l.rest
