use Rattle.quic_params.specs.Range.{plain}
use Rattle.quic_params.proofs.Further.{answers_further}
use Rattle.quic_params.proofs.Readings.{each_takes}
use Rattle.quic_params.proofs.laws.further.Goals as goal

pub returns : goal.returns
returns c = λ options side params entries order typed range others is.
    each_takes options side _ (plain params) (answers_further side params entries order typed range others is)
