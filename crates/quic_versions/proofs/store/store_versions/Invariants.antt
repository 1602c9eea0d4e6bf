use Rattle.quic_versions.proofs.Stored.{StoredOn}
use Rattle.quic_versions.proofs.store.store_versions.Given as goal

abbrev pub invariant-loop-version : goal.invariant-loop-version
invariant-loop-version l = StoredOn l.versions l.fn.at l.fn.dest l.version-index l.at l.dest
