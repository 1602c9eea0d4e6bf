use Rattle.std.proofs.Common.{sym}
use Rattle.quic_params.specs.Answer.{answer_at}
use Rattle.quic_params.specs.Options.{as_quinn}
use Rattle.quic_text.proofs.print.params.answer.Goals as goal

pub returns : goal.returns
returns c =
    sym (c.read.ensures.only (answer_at as_quinn c.args.side c.args.list.now)
    (c.answer_as_a_function.ensures as_quinn c.args.side c.args.list.now c.are_bytes.ensures))
