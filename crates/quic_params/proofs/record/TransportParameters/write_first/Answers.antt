use Rattle.quic_params.specs.Order.{id_of_index}
use Rattle.quic_params.specs.Writing.{written_for, three_from}
use Rattle.quic_params.proofs.Written.{refused_first, refused_second, third_last, in_three}
use Rattle.quic_params.proofs.record.TransportParameters.write_first.Goals as goal

pub returns-in_err-write_three : goal.returns-in_err-write_three
returns-in_err-write_three g c =
    refused_first _ c.write_three.result _ _ _ _ _ _ _ _ _ (in_three (λ i. written_for c.args.self.now (id_of_index i))
    (three_from 0) (three_from 3) (three_from 6)) c.write_three.ensures c.in_err-write_three.was
    c.from_residual.ensures.1

pub returns-in_err-write_three-2 : goal.returns-in_err-write_three-2
returns-in_err-write_three-2 g c =
    refused_second _ c.write_three.result c.write_three-2.result _ _ _ _ _ _ _ _ _ _ _ _
    (in_three (λ i. written_for c.args.self.now (id_of_index i)) (three_from 0) (three_from 3) (three_from 6))
    c.write_three.ensures c.in_ok-write_three.was c.write_three-2.ensures c.in_err-write_three-2.was
    c.from_residual-in_err-write_three-2.ensures.1

pub returns : goal.returns
returns g c =
    third_last c.write_three.result c.write_three-2.result c.write_three-3.result _ _ _ _ _ _ _ _ _ _ _ _
    (in_three (λ i. written_for c.args.self.now (id_of_index i)) (three_from 0) (three_from 3) (three_from 6))
    c.write_three.ensures c.in_ok-write_three.was
    c.write_three-2.ensures c.in_ok-write_three-2.was c.write_three-3.ensures
