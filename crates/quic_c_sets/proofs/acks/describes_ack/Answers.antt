use Rattle.std.proofs.Common.{inl, inr, refl, arith}
use Rattle.std.proofs.lemmas.Bool.{false≢true}
use Rattle.quic_c_sets.proofs.Writing.{last_small, numeric_none, described_ack}
use Rattle.quic_c_sets.proofs.acks.describes_ack.Goals as goal

pub returns-then-runs-count : goal.returns-then-runs-count
returns-then-runs-count c = (
  λ e. absurd (false≢true e),
  λ h. absurd (omega (
    arith,
    last_small c.args.runs.now c.args.count h.set h.some
        h.short,
    c.if-runs-count.true,
  )),
)

pub returns-then-few-eq0 : goal.returns-then-few-eq0
returns-then-few-eq0 c = (
  λ _.
      described_ack c.args.delay c.args.runs.now c.args.count c.args.counts.now (c.if-not-is_set.ensures.0 refl)
      (omega arith) c.if-runs-count.false (omega arith)
      (inl c.if-few-eq0.true) (numeric_none c.args.counts.now c.if-few-eq0.true),
  λ _. refl,
)

pub returns-then-few-eq3 : goal.returns-then-few-eq3
returns-then-few-eq3 c = (
  λ e.
      described_ack c.args.delay c.args.runs.now c.args.count c.args.counts.now (c.if-not-is_set.ensures.0 refl)
      (omega arith) c.if-runs-count.false (omega arith)
      (inr c.if-few-eq3.true) (c.are_numeric.ensures.0 e),
  λ h. c.are_numeric.ensures.1 h.counted,
)

pub returns-else-few-eq3 : goal.returns-else-few-eq3
returns-else-few-eq3 c = (
  λ e. absurd (false≢true e),
  λ h. absurd (elim h.three [ inl e ↦ omega (arith, e, c.if-few-eq0.false) | inr e ↦ omega (arith, e, c.if-few-eq3.false) ]),
)
