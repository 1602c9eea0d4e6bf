use Rattle.std.proofs.Common.{ltb, sym, ◌∙◌, rules, arith}
use Rattle.std.proofs.lemmas.List.Sorted.{IsPartitionPoint-from_clause}
use Rattle.quic_c_entries.specs.declared.words.CRange.{CRange}
use Rattle.quic_c_entries.proofs.Placing.{ends_place, ends_ordered, all_end_below, others_end_below}
use Rattle.quic_c_entries.proofs.places.count_ends_below.Goals as goal
use Rattle.quic_c_entries.proofs.places.count_ends_below.Goals.{then-runs-len-2, else-runs-len-2}

pub returns-clause-count : goal.returns-clause-count
returns-clause-count c h =
    let point = IsPartitionPoint-from_clause (λ (w : CRange). ltb w.end c.args.x) _ _ c.partition_point.ensures.partitioned
    (ends_ordered c.args.x c.args.runs.now h) (λ a r q k. search rules) in
    sym (ends_place c.args.x c.partition_point.result c.args.runs.now c.partition_point.ensures.bound point)

pub returns-then-runs-len-clause-count : goal.returns-then-runs-len-clause-count
returns-then-runs-len-clause-count c h =
    elim c.if-runs-len-2.branch [
      | then-runs-len-2 w ↦ w.result-is ∙ sym (all_end_below c.args.runs.now c.args.x h (omega arith) w.if-runs-len-2.true)
      | else-runs-len-2 w ↦ w.result-is ∙ sym (others_end_below c.args.runs.now c.args.x h (omega arith)
          c.if-runs-len.true w.if-runs-len-2.false)
    ]
