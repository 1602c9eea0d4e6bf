use Rattle.std.proofs.Common.{length, ◌-◌}
use Rattle.quic_c_words.specs.Shown.{rules_in}
use Rattle.quic_c.specs.Walks.{ShowsRun}
use Rattle.quic_c.proofs.Walking.{Walking}
use Rattle.quic_c.proofs.walks.walk_fill.Given as goal

abbrev pub invariant-loop-count : goal.invariant-loop-count
invariant-loop-count l =
    Walking (ShowsRun (rules_in l.fn.flags).short_types l.payload) l.fn.flags l.payload l.fn.out l.frames l.out l.count

abbrev pub decreases-loop-count : goal.decreases-loop-count
decreases-loop-count l = length l.initial.out - l.count
