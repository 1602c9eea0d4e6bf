use Rattle.std.proofs.Common.{arith, refl}
use Rattle.quic_ranges.proofs.ExtensionLemmas.{BecomesRunsOf-behind, BecomesRunsOf-grown, IsRunsOf-inside_last}
use Rattle.quic_ranges.proofs.range_set.sorted_runs.extend_last.Goals as goal
use Rattle.quic_ranges.proofs.range_set.sorted_runs.extend_last.Goals.{then-len-eq0-via-then-len-eq0, then-len-eq0-via-else-len-eq0+then-runs-len}

pub returns-then-len-eq0 : goal.returns-then-len-eq0
returns-then-len-eq0 c = (
  refl,
  BecomesRunsOf-behind c.args.runs.now c.args.x.now (record { start = 0; end = 0 }) c.requires (omega arith)
      (λ some. elim c.then-len-eq0.branch [
        | then-len-eq0-via-then-len-eq0 w ↦ absurd (omega arith)
        | then-len-eq0-via-else-len-eq0+then-runs-len w ↦ w.if-runs-len.true
      ]),
)

pub returns-then-x-runs-2 : goal.returns-then-x-runs-2
returns-then-x-runs-2 c = (
  refl,
  IsRunsOf-inside_last c.args.runs.now c.args.x.now (record { start = 0; end = 0 }) c.requires (omega arith)
      (omega arith) c.if-x-runs.false c.if-x-runs-2.true,
)

pub returns : goal.returns
returns c =
    BecomesRunsOf-grown c.args.runs.now c.args.x.now (record { start = 0; end = 0 }) c.requires (omega arith)
    c.if-x-runs.false c.if-runs-len.false c.if-x-runs-2.false
