use Rattle.quic_params.proofs.Records.{answer_once}
use Rattle.quic_params.proofs.laws.one_answer.Goals as goal

pub returns : goal.returns
returns c = answer_once
