use Rattle.quic_ranges.proofs.LawsLemmas.{AscendFrom-numbers_of, any_number}
use Rattle.quic_ranges.proofs.laws.elements.Goals as goal

pub returns-clause-ascending : goal.returns-clause-ascending
returns-clause-ascending c = AscendFrom-numbers_of 0

pub returns-clause-members : goal.returns-clause-members
returns-clause-members c = any_number
