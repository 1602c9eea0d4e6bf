use Rattle.std.proofs.Common.{◌<◌, ap, sym, ◌∙◌, length, arith, subst, length-append, ℕ}
use Rattle.quic_ranges.specs.Numbers.{AreNonempty}
use Rattle.quic_ranges.proofs.NumbersLemmas.{elts-back-last, elts-run-last, elts-front-last, elts-none, AreNonempty-push}
use Rattle.quic_ranges.proofs.range_set.runs_iter.EltIterDoubleEndedIterator.next_back.Goals as goal

pub returns-then-self-clause-steps : goal.returns-then-self-clause-steps
returns-then-self-clause-steps c =
    elts-back-last c.self.inside.front c.self.inside.back c.self.inside.runs c.args.self.now c.if-self.true c.self.view_is

pub returns-then-self-clause-goes : goal.returns-then-self-clause-goes
returns-then-self-clause-goes c =
    let fewer = simp length-append at (ap length (elts-back-last c.self.inside.front c.self.inside.back
    c.self.inside.runs c.args.self.now c.if-self.true c.self.view_is)) in omega (arith, length-append {A = ℕ})

pub overflow_sub-x : goal.overflow_sub-x
overflow_sub-x c =
    let both =
    AreNonempty-push c.next_back.new.self c.in-Some.run' (subst AreNonempty c.in-Some.ensures.steps c.self.invariant) in
    let nonempty : c.in-Some.run'.start < c.in-Some.run'.end = both.1 in
    omega arith

pub invariant_of-self-in-Some : goal.invariant_of-self-in-Some
invariant_of-self-in-Some c =
    (AreNonempty-push c.next_back.new.self c.in-Some.run' (subst AreNonempty c.in-Some.ensures.steps c.self.invariant)).0

pub returns-in-Some-clause-steps : goal.returns-in-Some-clause-steps
returns-in-Some-clause-steps c =
    elts-run-last c.self.inside.front c.self.inside.back c.in-Some.run' c.next_back.new.self c.self.inside.runs
    c.args.self.now c.if-self.false c.in-Some.ensures.steps c.self.invariant c.self.view_is

pub returns-in-Some-clause-goes : goal.returns-in-Some-clause-goes
returns-in-Some-clause-goes c =
    let fewer = simp length-append at (ap length (elts-run-last c.self.inside.front c.self.inside.back c.in-Some.run'
    c.next_back.new.self c.self.inside.runs c.args.self.now c.if-self.false c.in-Some.ensures.steps c.self.invariant
    c.self.view_is)) in omega (arith, length-append {A = ℕ})

pub returns-then-self-2-clause-steps : goal.returns-then-self-2-clause-steps
returns-then-self-2-clause-steps c =
    elts-front-last c.self.inside.front c.self.inside.back c.next_back.new.self c.self.inside.runs c.args.self.now
    c.if-self.false c.if-self-2.true c.in_default.ensures.steps.0 c.in_default.ensures.steps.1 c.self.view_is

pub returns-then-self-2-clause-goes : goal.returns-then-self-2-clause-goes
returns-then-self-2-clause-goes c =
    let fewer = simp length-append at (ap length (elts-front-last c.self.inside.front c.self.inside.back
    c.next_back.new.self c.self.inside.runs c.args.self.now c.if-self.false c.if-self-2.true
    c.in_default.ensures.steps.0 c.in_default.ensures.steps.1 c.self.view_is)) in omega
    (arith, length-append {A = ℕ})

pub returns-clause-steps : goal.returns-clause-steps
returns-clause-steps c = (
  sym c.self.view_is
      ∙ elts-none c.self.inside.front c.self.inside.back c.self.inside.runs c.if-self-2.false c.if-self.false c.in_default.ensures.steps.0,
  elts-none c.self.inside.front c.self.inside.back c.next_back.new.self c.if-self-2.false c.if-self.false c.in_default.ensures.steps.1,
)
