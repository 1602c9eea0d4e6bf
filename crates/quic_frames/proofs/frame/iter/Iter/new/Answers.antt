use Rattle.std.proofs.Common.{rules}
use Rattle.quic_frames.proofs.frame.iter.Iter.new.Goals as goal

pub returns-clause-first : goal.returns-clause-first
returns-clause-first c = search rules

pub returns-clause-one : goal.returns-clause-one
returns-clause-one c = c.begin.ensures.one

pub returns-clause-gives : goal.returns-clause-gives
returns-clause-gives c = c.begin.ensures.gives

pub returns-clause-few : goal.returns-clause-few
returns-clause-few c = c.begin.ensures.few
