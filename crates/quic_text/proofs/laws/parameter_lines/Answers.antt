use Rattle.std.proofs.Common.{ap}
use Rattle.quic_params.specs.Answer.{answer_at}
use Rattle.quic_params.specs.Options.{as_quinn}
use Rattle.quic_text.specs.ParameterText.{answer_lines}
use Rattle.quic_text.proofs.laws.parameter_lines.Goals as goal

pub returns : goal.returns
returns c = λ side list answer bytes is.
    ap answer_lines (c.one_answer.ensures as_quinn side list (answer_at as_quinn side list) answer (c.answer_as_a_function.ensures as_quinn side list bytes) is)
