use Rattle.quic_params.proofs.AnswerAsFunction.{answer_is}
use Rattle.quic_params.proofs.laws.answer_as_a_function.Goals as goal

pub returns : goal.returns
returns c = answer_is
