use Rattle.std.proofs.Common.{◌≡◌, ◌+◌, ◌-◌, ◌++◌, length, take, drop, refl, ap, sym, ◌∙◌, subst, arith, rules, length-drop}
use Rattle.std.proofs.lemmas.List.{take_at}
use Rattle.std.specs.List.{insert}
use Rattle.quic_ranges.specs.Splices.{substitutes, after_splice}
use Rattle.quic_ranges.proofs.SpliceLemmas.{Holds, Holds-insert, Holds-drain, Holds-same, spliced-behind}
use Rattle.std.proofs.lemmas.Grind.{common_steps}
use Rattle.quic_ranges.proofs.range_set.run_vec.RunVec.apply.Goals as goal
use Rattle.quic_ranges.proofs.range_set.run_vec.RunVec.apply.Goals.{then-less-more+in_ok-map_err, else-less-more+then-more-less, else-less-more+else-more-less}

pub returns-clause-ok : goal.returns-clause-ok
returns-clause-ok c =
    let xs = c.self.inside.items.items in
    let k = c.self.inside.taken in
    let f = k + c.args.change.from in
    let t = k + c.args.change.to in
    let vs = substitutes c.args.change.by in
    let ys = c.if-less-more.self-inside.items.items in
    let count = c.len-more.ensures.count in
    let rest : length c.args.self.now ≡ length xs - k = ap length (sym c.self.view_is) ∙ length-drop k xs in
    let held : Holds xs ys f t (f + c.len-more.result) × (c.if-less-more.self-inside.taken ≡ k) = elim c.if-less-more.branch [
      | then-less-more+in_ok-map_err w ↦ rw w.self-inside-is
          (let items : w.insert.new.self.items ≡ insert xs t (record { start = 0; end = 0 }) = search rules in
          (Holds-insert xs _ f t (f + c.len-more.result) _ (omega arith) (omega arith) (omega arith) items, refl))
      | else-less-more+then-more-less w ↦ rw w.self-inside-is
          (Holds-drain xs _ f t (f + c.len-more.result) (omega arith) (omega arith) (search rules), refl)
      | else-less-more+else-more-less w ↦ rw w.self-inside-is (Holds-same xs _ f t (f + c.len-more.result) (omega arith) refl, refl)
    ] in
    let written : c.write.new.runs ≡ take f ys ++ (vs ++ drop (f + c.len-more.result) ys) =
    c.write.ensures ∙ ap (λ l. take f l ++ (vs ++ drop (f + length vs) l)) c.as_mut_slice.ensures.value
    ∙ ap (λ m. take f ys ++ (vs ++ drop (f + m) ys)) (sym count) in
    let main =
    spliced-behind xs ys c.write.new.runs vs k c.args.change.from c.args.change.to f t (f + c.len-more.result)
    c.self.invariant refl refl held.0 written in
    ap (drop c.if-less-more.self-inside.taken) (take_at c.write.new.runs _ _ (c.write.auto.runs ∙ c.as_mut_slice.ensures.len))
    ∙ subst (λ j. drop j c.write.new.runs ≡ after_splice c.args.self.now c.args.change) (sym held.1)
    (main ∙ ap (λ l. after_splice l c.args.change) c.self.view_is)

pub drain-requires-clause-in_bounds : goal.drain-requires-clause-in_bounds
drain-requires-clause-in_bounds c = grind (arith, common_steps)

pub insert-requires : goal.insert-requires
insert-requires c = grind (arith, common_steps)

pub invariant_of-self-2 : goal.invariant_of-self-2
invariant_of-self-2 c = grind (arith, common_steps)

pub overflow_add-from : goal.overflow_add-from
overflow_add-from c = grind (arith, common_steps)

pub overflow_add-from-then-more-less : goal.overflow_add-from-then-more-less
overflow_add-from-then-more-less c = grind (arith, common_steps)

pub overflow_add-to : goal.overflow_add-to
overflow_add-to c = grind (arith, common_steps)

pub place-at-requires : goal.place-at-requires
place-at-requires c = grind (arith, common_steps)

pub returns-in_err-map_err-clause-more_runs : goal.returns-in_err-map_err-clause-more_runs
returns-in_err-map_err-clause-more_runs c = grind (arith, common_steps)

pub write-requires : goal.write-requires
write-requires c = grind (arith, common_steps)

pub invariant_of-self : goal.invariant_of-self
invariant_of-self c = grind (arith, common_steps)
