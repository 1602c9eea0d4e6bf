use Rattle.quic_params.specs.Order.{id_of_index}
use Rattle.quic_params.specs.Writing.{written_for, three_from, nine_from}
use Rattle.quic_params.proofs.Written.{refused_first, refused_second, third_last, in_three}
use Rattle.quic_params.proofs.record.TransportParameters.write_all.Goals as goal

pub returns-in_err-write_first : goal.returns-in_err-write_first
returns-in_err-write_first g c =
    refused_first _ c.write_first.result _ _ _ _ _ _ _ _ _ (in_three (λ i. written_for c.args.self.now (id_of_index i))
    (nine_from 0) (nine_from 9) (three_from 18)) c.write_first.ensures c.in_err-write_first.was
    c.from_residual.ensures.1

pub returns-in_err-write_next : goal.returns-in_err-write_next
returns-in_err-write_next g c =
    refused_second _ c.write_first.result c.write_next.result _ _ _ _ _ _ _ _ _ _ _ _
    (in_three (λ i. written_for c.args.self.now (id_of_index i)) (nine_from 0) (nine_from 9) (three_from 18))
    c.write_first.ensures c.in_ok-write_first.was c.write_next.ensures c.in_err-write_next.was
    c.from_residual-in_err-write_next.ensures.1

pub returns : goal.returns
returns g c =
    third_last c.write_first.result c.write_next.result c.write_three.result _ _ _ _ _ _ _ _ _ _ _ _
    (in_three (λ i. written_for c.args.self.now (id_of_index i)) (nine_from 0) (nine_from 9) (three_from 18))
    c.write_first.ensures c.in_ok-write_first.was
    c.write_next.ensures c.in_ok-write_next.was c.write_three.ensures
