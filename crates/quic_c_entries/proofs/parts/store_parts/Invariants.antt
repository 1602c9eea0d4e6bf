use Rattle.quic_c_entries.specs.Entries.{range_of}
use Rattle.quic_c_entries.proofs.RangeParts.{StoredOn}
use Rattle.quic_c_entries.proofs.parts.store_parts.Given as goal

abbrev pub invariant-loop-run : goal.invariant-loop-run
invariant-loop-run l = StoredOn l.runs (range_of l.x) l.fn.dest l.run-index l.count l.dest
