use Rattle.quic_params.specs.Further.{asked}
use Rattle.quic_c_params.proofs.StoredEntries.{CountedTo}
use Rattle.quic_c_params.proofs.lists.list_len.Given as goal

abbrev pub invariant-loop-place : goal.invariant-loop-place
invariant-loop-place l = CountedTo l.params l.further (asked l.count l.order) l.place l.len
