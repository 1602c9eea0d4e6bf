use Rattle.quic_ranges.proofs.range_set.vec_range_set.RangeSet.insert.Goals as goal

pub returns-clause-changed : goal.returns-clause-changed
returns-clause-changed c = rw (← c.self.view_is) c.join.ensures.changed
