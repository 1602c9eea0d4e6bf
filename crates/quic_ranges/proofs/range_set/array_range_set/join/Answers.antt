use Rattle.std.proofs.Common.{◌≡◌, List, ◌+◌, ◌++◌, ◌∷◌, [], length, ap, ◌∙◌, arith, rules}
use Rattle.std.proofs.lemmas.Grind.{common_steps}
use Rattle.std.proofs.lemmas.List.{take_at}
use Rattle.std.specs.List.{refill}
use Rattle.quic_ranges.specs.Runs.{in_union}
use Rattle.quic_ranges.specs.Splices.{BecomesRunsOf}
use Rattle.quic_ranges.proofs.ExtensionLemmas.{length-pushed}
use Rattle.quic_ranges.proofs.range_set.array_range_set.join.Goals as goal
use Rattle.quic_ranges.proofs.range_set.array_range_set.join.Goals.{After-join_among, In-Unchanged, In-Extended, In_ok-map_err-in-AfterAll}

-- runs that are written back as they were are the same
written_back : {X : Type 0} (xs ys : List X) → ys ≡ xs → refill (length xs) xs ys ≡ xs
written_back xs ys e = take_at ys _ (length xs) (ap length e) ∙ e

kept : (c : After-join_among)
    → refill (length c.args.runs.now.items) c.args.runs.now.items c.extend_last.new.runs ≡ c.args.runs.now.items
kept c =
    written_back c.args.runs.now.items c.extend_last.new.runs (c.in-BeforeLast.ensures ∙ c.as_mut_slice.ensures.value)

pub returns-in_err-map_err-in-AfterAll-clause-no_more_runs : goal.returns-in_err-map_err-in-AfterAll-clause-no_more_runs
returns-in_err-map_err-in-AfterAll-clause-no_more_runs c rs h le =
    let becomes : BecomesRunsOf (in_union c.args.runs.now.items c.args.x.now) c.args.runs.now.items
    (c.args.runs.now.items ++ c.args.x.now ∷ []) =
    rw (← c.as_mut_slice.ensures.value) c.in-AfterAll.ensures.1 in
    let more : length rs ≡ length c.args.runs.now.items + 1 =
    length-pushed (in_union c.args.runs.now.items c.args.x.now) c.args.runs.now.items rs c.args.x.now becomes h in
    absurd (omega arith)

behind : (c : In_ok-map_err-in-AfterAll)
    → BecomesRunsOf (in_union c.args.runs.now.items c.args.x.now) c.args.runs.now.items (c.args.runs.now.items ++ c.args.x.now ∷ [])
behind c = rw (← c.as_mut_slice.ensures.value) c.in-AfterAll.ensures.1

pub returns-in_ok-map_err-in-AfterAll-clause-union : goal.returns-in_ok-map_err-in-AfterAll-clause-union
returns-in_ok-map_err-in-AfterAll-clause-union c =
    let same =
    written_back c.args.runs.now.items c.extend_last.new.runs (c.in-AfterAll.ensures.0 ∙ c.as_mut_slice.ensures.value) in
    let pushed : c.push.new.self.items ≡ refill (length c.args.runs.now.items) c.args.runs.now.items
    c.extend_last.new.runs ++ c.args.x.now ∷ [] =
    search rules in
    rw (pushed, same) (behind c).runs

pub returns-in-BeforeLast-clause-union : goal.returns-in-BeforeLast-clause-union
returns-in-BeforeLast-clause-union c = rw (kept c) at c.join_among.ensures.union

pub returns-in-BeforeLast-clause-changed : goal.returns-in-BeforeLast-clause-changed
returns-in-BeforeLast-clause-changed c = rw (kept c) at c.join_among.ensures.changed

pub returns-in-BeforeLast-clause-err : goal.returns-in-BeforeLast-clause-err
returns-in-BeforeLast-clause-err c = rw (kept c) at c.join_among.ensures.err

pub returns-in-BeforeLast-clause-no_more_runs : goal.returns-in-BeforeLast-clause-no_more_runs
returns-in-BeforeLast-clause-no_more_runs c = rw (kept c) at c.join_among.ensures.no_more_runs

pub returns-in-BeforeLast-clause-no_room : goal.returns-in-BeforeLast-clause-no_room
returns-in-BeforeLast-clause-no_room c = rw (kept c) at c.join_among.ensures.no_room

pub returns-in_ok-map_err-in-AfterAll-clause-changed : goal.returns-in_ok-map_err-in-AfterAll-clause-changed
returns-in_ok-map_err-in-AfterAll-clause-changed c =
    (λ t e. (behind c).differs (rw e at (returns-in_ok-map_err-in-AfterAll-clause-union c)), λ ne. search rules)

left_alone : (c : In-Unchanged)
    → refill (length c.args.runs.now.items) c.args.runs.now.items c.extend_last.new.runs ≡ c.args.runs.now.items
left_alone c =
    written_back c.args.runs.now.items c.extend_last.new.runs (c.in-Unchanged.ensures.0 ∙ c.as_mut_slice.ensures.value)

pub returns-in-Unchanged-clause-union : goal.returns-in-Unchanged-clause-union
returns-in-Unchanged-clause-union c = rw (left_alone c) (rw c.as_mut_slice.ensures.value at c.in-Unchanged.ensures.1)

pub returns-in-Unchanged-clause-changed : goal.returns-in-Unchanged-clause-changed
returns-in-Unchanged-clause-changed c = rw (left_alone c) (search rules)

grown : (c : In-Extended)
    → BecomesRunsOf (in_union c.args.runs.now.items c.args.x.now) c.args.runs.now.items c.extend_last.new.runs
grown c = rw (← c.as_mut_slice.ensures.value) c.in-Extended.ensures

written : (c : In-Extended)
    → refill (length c.args.runs.now.items) c.args.runs.now.items c.extend_last.new.runs ≡ c.extend_last.new.runs
written c =
    take_at c.extend_last.new.runs _ (length c.args.runs.now.items)
    (omega (arith, ap length c.as_mut_slice.ensures.value, c.extend_last.auto.runs))

pub returns-in-Extended-clause-union : goal.returns-in-Extended-clause-union
returns-in-Extended-clause-union c = rw (written c) (grown c).runs

pub returns-in-Extended-clause-changed : goal.returns-in-Extended-clause-changed
returns-in-Extended-clause-changed c =
    rw (written c) (λ t e. (grown c).differs (rw e at (grown c).runs), λ ne. search rules)

pub returns-in_err-map_err-in-AfterAll-clause-err : goal.returns-in_err-map_err-in-AfterAll-clause-err
returns-in_err-map_err-in-AfterAll-clause-err c = grind (arith, common_steps)

pub returns-in_err-map_err-in-AfterAll-clause-no_room : goal.returns-in_err-map_err-in-AfterAll-clause-no_room
returns-in_err-map_err-in-AfterAll-clause-no_room c = grind (arith, common_steps)

pub join_among-requires : goal.join_among-requires
join_among-requires c = grind (arith, common_steps)
