use Rattle.quic_params.specs.Further.{asked}
use Rattle.quic_c_params.proofs.StoredEntries.{StoredTo}
use Rattle.quic_c_params.proofs.lists.store_list.Given as goal

abbrev pub invariant-loop-place : goal.invariant-loop-place
invariant-loop-place l = StoredTo l.params l.further (asked l.count l.order) l.fn.dest l.place l.at l.dest
