use Rattle.std.proofs.Common.{rules}
use Rattle.quic_base.proofs.Readings.{found_taken}
use Rattle.quic_base.proofs.Words.{takes_slice}
use Rattle.quic_base.proofs.varint.split_var_by_word.Goals as goal

pub returns-clause-found : goal.returns-clause-found
returns-clause-found c =
    found_taken _ _ _
    (takes_slice _ c.number_of_word-number.result.1 c.args.bytes.now c.in-Some.front.now (search rules)
    c.number_of_word-number.ensures.width c.number_of_word-number.ensures.encoded)
