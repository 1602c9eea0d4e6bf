use Rattle.std.proofs.Common.{ap, ◌∙◌}
use Rattle.quic_ranges.specs.Numbers.{numbers_of}
use Rattle.quic_ranges.proofs.NumbersLemmas.{elts-all, AreNonempty-runs}
use Rattle.quic_ranges.proofs.range_set.runs_iter.EltIter.of.Goals as goal

pub invariant_of-result : goal.invariant_of-result
invariant_of-result c = AreNonempty-runs 0 c.of.result (rw c.of.ensures c.requires)

pub returns : goal.returns
returns c = elts-all c.of.result ∙ ap numbers_of c.of.ensures
