use Rattle.std.proofs.Common.{◌≡◌, ◌+◌, ◌∙◌, List, length, refl, subst, sym}
use Rattle.quic_c_entries.specs.declared.words.CRange.{CRange}
use Rattle.quic_c_entries.specs.Changes.{after_change}
use Rattle.quic_c_runs.specs.declared.words.CRuns.{CRuns}
use Rattle.quic_c_runs.specs.Sets.{entries_at}
use Rattle.quic_c_runs.specs.Moves.{MadeAt}
use Rattle.quic_c_runs.proofs.Moving.{made_moved}
use Rattle.quic_c_runs.proofs.moves.make_at.Goals as goal

pub returns-clause-made : goal.returns-clause-made
returns-clause-made c h =
    let change = c.args.change in
    let runs = c.make_behind.new.runs in
    let set = c.make_behind.new.set in
    let same = c.if-make_behind.ensures.same refl in
    let named = c.if-make_behind.ensures.named refl in
    let more : length (after_change (entries_at runs set) change) ≡ set.count + 1 =
    subst (λ (l : List CRange). length (after_change (entries_at l set) change) ≡ set.count + 1) (sym same)
    (subst (λ (s : CRuns). length (after_change (entries_at c.args.runs.now s) change) ≡ s.count + 1) (sym named)
    (c.if-make_behind.ensures.more refl)) in
    let made : MadeAt runs set change c.make_behind-2.new.runs c.make_behind-2.new.set =
    made_moved runs c.move_to_front.new.runs c.make_behind-2.new.runs set c.move_to_front.new.set c.make_behind-2.new.set change
    (c.make_behind-2.ensures.made h) c.move_to_front.ensures.first c.move_to_front.ensures.count c.move_to_front.ensures.moved
    c.move_to_front.ensures.behind (c.make_behind-2.ensures.first ∙ c.move_to_front.ensures.first) more in
    subst (λ (l : List CRange). MadeAt l c.args.set.now change c.make_behind-2.new.runs c.make_behind-2.new.set) same
    (subst (λ (s : CRuns). MadeAt runs s change c.make_behind-2.new.runs c.make_behind-2.new.set) named made)
