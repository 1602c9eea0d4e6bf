use Rattle.std.proofs.Common.{refl, ◌+◌}
use Rattle.quic_params.specs.Order.{id_of_index}
use Rattle.quic_params.specs.Writing.{written_for}
use Rattle.quic_params.proofs.Written.{refused_first, refused_second, third_last, of_three}
use Rattle.quic_params.proofs.record.TransportParameters.write_three.Goals as goal

pub returns-in_err-write_parameter : goal.returns-in_err-write_parameter
returns-in_err-write_parameter g c =
    refused_first _ c.write_parameter.result _ _ _ _ _ _ _ _ _
    (of_three (written_for c.args.self.now) id_of_index g.row.INDEX (g.row.INDEX + 1) (g.row.INDEX + 2)
    c.id_of_index.result _ _ c.id_of_index.ensures refl refl) c.write_parameter.ensures
    c.in_err-write_parameter.was c.from_residual.ensures.1

pub returns-in_err-write_parameter-2 : goal.returns-in_err-write_parameter-2
returns-in_err-write_parameter-2 g c =
    refused_second _ c.write_parameter.result c.write_parameter-2.result _ _ _ _ _ _ _ _ _ _ _ _
    (of_three (written_for c.args.self.now) id_of_index g.row.INDEX (g.row.INDEX + 1) (g.row.INDEX + 2)
    c.id_of_index.result c.id_of_index-2.result _ c.id_of_index.ensures c.id_of_index-2.ensures refl)
    c.write_parameter.ensures c.in_ok-write_parameter.was c.write_parameter-2.ensures c.in_err-write_parameter-2.was
    c.from_residual-in_err-write_parameter-2.ensures.1

pub returns : goal.returns
returns g c =
    third_last c.write_parameter.result c.write_parameter-2.result c.write_parameter-3.result _ _ _ _ _ _ _ _ _ _ _ _
    (of_three (written_for c.args.self.now) id_of_index g.row.INDEX (g.row.INDEX + 1) (g.row.INDEX + 2)
    c.id_of_index.result c.id_of_index-2.result c.id_of_index-3.result c.id_of_index.ensures c.id_of_index-2.ensures
    c.id_of_index-3.ensures) c.write_parameter.ensures
    c.in_ok-write_parameter.was c.write_parameter-2.ensures c.in_ok-write_parameter-2.was c.write_parameter-3.ensures
