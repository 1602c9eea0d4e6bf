use Rattle.quic_wire.proofs.WholeNumbers.{number_again, one_number}
use Rattle.quic_wire.proofs.meanings.numbers.Goals as goal

pub returns-clause-one : goal.returns-clause-one
returns-clause-one c = one_number

pub returns-clause-again : goal.returns-clause-again
returns-clause-again c = number_again
