use Rattle.quic_params.specs.Answer.{answer_at}
use Rattle.quic_wire.proofs.laws.every_list.Goals as goal

pub returns : goal.returns
returns c = λ options side bytes fits.
    let found = c.answer_as_a_function.ensures options side bytes fits in
    record {
      it = answer_at options side bytes;
      is = found;
      only = λ other is. c.one_answer.ensures options side bytes other (answer_at options side bytes) is found;
    }
