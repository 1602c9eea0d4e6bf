use Rattle.quic_ranges.proofs.range_set.array_range_set.ArrayRangeSet.insert.Goals as goal

pub returns-clause-changed : goal.returns-clause-changed
returns-clause-changed c = rw (← c.self.view_is) c.join.ensures.changed
