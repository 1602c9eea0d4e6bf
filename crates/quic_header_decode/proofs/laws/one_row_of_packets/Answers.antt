-- By what reading finds.
use Rattle.std.proofs.Common.{sym, ◌∙◌}
use Rattle.quic_header_decode.proofs.Steps.{pair_parts}
use Rattle.quic_header_decode.proofs.Datagrams.{packets_again, packets_found}
use Rattle.quic_header_decode.proofs.laws.one_row_of_packets.Goals as goal

pub returns-clause-one : goal.returns-clause-one
returns-clause-one c = λ options bytes some others refusal other fits a b.
    pair_parts (sym (packets_again options bytes some refusal fits a) ∙ packets_again options bytes others other fits b)

pub returns-clause-found : goal.returns-clause-found
returns-clause-found c = λ options bytes fits takes. packets_found options bytes fits takes
