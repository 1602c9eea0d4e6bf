use Rattle.std.proofs.Common.{leb, sym, rules, arith}
use Rattle.std.proofs.lemmas.List.Sorted.{IsPartitionPoint-from_clause}
use Rattle.quic_c_entries.specs.declared.words.CRange.{CRange}
use Rattle.quic_c_entries.proofs.Placing.{starts_place, starts_ordered, all_start_upto}
use Rattle.quic_c_entries.proofs.places.count_starts_upto.Goals as goal

pub returns-clause-count : goal.returns-clause-count
returns-clause-count c h =
    let point = IsPartitionPoint-from_clause (λ (w : CRange). leb w.start c.args.x) _ _ c.partition_point.ensures.partitioned
    (starts_ordered c.args.x c.args.runs.now h) (λ a r q k. search rules) in
    sym (starts_place c.args.x c.partition_point.result c.args.runs.now c.partition_point.ensures.bound point)

pub returns-then-runs-len-clause-count : goal.returns-then-runs-len-clause-count
returns-then-runs-len-clause-count c h =
    all_start_upto c.args.runs.now c.args.x h (omega arith) c.if-runs-len.true
