use Rattle.std.proofs.Common.{ap, sym, ◌∙◌, length, arith}
use Rattle.quic_ranges.proofs.NumbersLemmas.{elts-front, elts-run, elts-back, elts-none}
use Rattle.quic_ranges.proofs.range_set.runs_iter.EltIterIterator.next.Goals as goal

pub returns-then-self-clause-steps : goal.returns-then-self-clause-steps
returns-then-self-clause-steps c =
    elts-front c.self.inside.front c.self.inside.back c.self.inside.runs c.args.self.now c.if-self.true c.self.view_is

pub returns-then-self-clause-goes : goal.returns-then-self-clause-goes
returns-then-self-clause-goes c =
    let fewer = ap length (elts-front c.self.inside.front c.self.inside.back c.self.inside.runs c.args.self.now
    c.if-self.true c.self.view_is) in omega arith

pub returns-in-Some-clause-steps : goal.returns-in-Some-clause-steps
returns-in-Some-clause-steps c =
    elts-run c.self.inside.front c.self.inside.back c.in-Some.run' c.next.new.self c.self.inside.runs c.args.self.now
    c.if-self.false c.in-Some.ensures.steps c.self.invariant c.self.view_is

pub returns-in-Some-clause-goes : goal.returns-in-Some-clause-goes
returns-in-Some-clause-goes c =
    let fewer = ap length (elts-run c.self.inside.front c.self.inside.back c.in-Some.run' c.next.new.self
    c.self.inside.runs c.args.self.now c.if-self.false c.in-Some.ensures.steps c.self.invariant c.self.view_is) in
    omega arith

pub returns-then-self-2-clause-steps : goal.returns-then-self-2-clause-steps
returns-then-self-2-clause-steps c =
    elts-back c.self.inside.front c.self.inside.back c.next.new.self c.self.inside.runs c.args.self.now c.if-self.false
    c.if-self-2.true c.in_default.ensures.steps.0 c.in_default.ensures.steps.1 c.self.view_is

pub returns-then-self-2-clause-goes : goal.returns-then-self-2-clause-goes
returns-then-self-2-clause-goes c =
    let fewer = ap length (elts-back c.self.inside.front c.self.inside.back c.next.new.self c.self.inside.runs
    c.args.self.now c.if-self.false c.if-self-2.true c.in_default.ensures.steps.0 c.in_default.ensures.steps.1
    c.self.view_is) in omega arith

pub returns-clause-steps : goal.returns-clause-steps
returns-clause-steps c = (
  sym c.self.view_is
      ∙ elts-none c.self.inside.front c.self.inside.back c.self.inside.runs c.if-self.false c.if-self-2.false c.in_default.ensures.steps.0,
  elts-none c.self.inside.front c.self.inside.back c.next.new.self c.if-self.false c.if-self-2.false c.in_default.ensures.steps.1,
)
