use Rattle.quic_params.specs.Range.{plain}
use Rattle.quic_params.specs.Writing.{written, written_in}
use Rattle.quic_params.proofs.ReadBack.{answers_again, answers_in_order}
use Rattle.quic_params.proofs.Readings.{each_takes}
use Rattle.quic_params.proofs.laws.read_back.Goals as goal

pub returns-clause-own : goal.returns-clause-own
returns-clause-own c = λ options side params typed range.
    each_takes options side (written params) (plain params) (answers_again side params typed range)

pub returns-clause-any : goal.returns-clause-any
returns-clause-any c = λ options side params order typed range is.
    each_takes options side (written_in params order) (plain params) (answers_in_order side params order typed range is)
