use Rattle.std.proofs.Common.{◌≡◌, ◌+◌, ◌++◌, length, take, drop, refl, ap, sym, ◌∙◌, arith, rules}
use Rattle.std.proofs.lemmas.List.{take_at}
use Rattle.std.specs.List.{insert}
use Rattle.quic_ranges.specs.Splices.{substitutes}
use Rattle.quic_ranges.proofs.SpliceLemmas.{Holds, Holds-insert, Holds-drain, Holds-same, spliced}
use Rattle.std.proofs.lemmas.Grind.{common_steps}
use Rattle.quic_ranges.proofs.range_set.array_range_set.apply.Goals as goal
use Rattle.quic_ranges.proofs.range_set.array_range_set.apply.Goals.{then-less-more+in_ok-map_err, else-less-more+then-more-less, else-less-more+else-more-less}

pub returns-clause-ok : goal.returns-clause-ok
returns-clause-ok c =
    let xs = c.args.runs.now.items in
    let f = c.args.change.from in
    let t = c.args.change.to in
    let vs = substitutes c.args.change.by in
    let ys = c.if-less-more.runs.items in
    let count = c.len-more.ensures.count in
    let held : Holds xs ys f t (f + c.len-more.result) = elim c.if-less-more.branch [
      | then-less-more+in_ok-map_err w ↦ rw w.runs-is (let items : w.insert.new.self.items
          ≡ insert xs t (record { start = 0; end = 0 }) = search rules in
          Holds-insert xs _ f t (f + c.len-more.result) _ (omega arith) (omega arith) (omega arith) items)
      | else-less-more+then-more-less w ↦ rw w.runs-is (let kept = w.drop-drain.ensures.items w.drain.ensures.ready.2
          ∙ w.drain.ensures.kept in
          Holds-drain xs _ f t (f + c.len-more.result) (omega arith) (omega arith) (search rules))
      | else-less-more+else-more-less w ↦ rw w.runs-is (Holds-same xs _ f t (f + c.len-more.result) (omega arith) refl)
    ] in
    let written : c.write.new.runs ≡ take f ys ++ (vs ++ drop (f + c.len-more.result) ys) =
    c.write.ensures ∙ ap (λ l. take f l ++ (vs ++ drop (f + length vs) l)) c.as_mut_slice.ensures.value
    ∙ ap (λ m. take f ys ++ (vs ++ drop (f + m) ys)) (sym count) in
    let whole : length c.write.new.runs ≡ length ys = c.write.auto.runs ∙ ap length c.as_mut_slice.ensures.value in
    take_at c.write.new.runs _ (length ys) whole
    ∙ spliced xs ys c.write.new.runs vs f t (f + c.len-more.result) held written

pub write-requires : goal.write-requires
write-requires c = grind (arith, common_steps)

pub returns-in_err-map_err-clause-more_runs : goal.returns-in_err-map_err-clause-more_runs
returns-in_err-map_err-clause-more_runs c = grind (arith, common_steps)

pub returns-clause-capacity : goal.returns-clause-capacity
returns-clause-capacity c = grind (arith, common_steps)
