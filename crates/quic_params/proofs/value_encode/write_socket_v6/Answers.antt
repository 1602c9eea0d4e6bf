use Rattle.std.proofs.Common.{refl}
use Rattle.quic_params.proofs.Written.{refused_first, then_last}
use Rattle.quic_params.proofs.value_encode.write_socket_v6.Goals as goal

pub returns-in_err-write_ip_v6 : goal.returns-in_err-write_ip_v6
returns-in_err-write_ip_v6 g c =
    refused_first _ c.write_ip_v6.result _ _ _ _ _ _ _ _ _ refl c.write_ip_v6.ensures c.in_err-write_ip_v6.was c.from_residual.ensures.1

pub returns : goal.returns
returns g c =
    then_last c.write_ip_v6.result c.write_u16.result _ _ _ _ _ _ _ _ _ (rw c.port.ensures refl) c.write_ip_v6.ensures
    c.in_ok-write_ip_v6.was c.write_u16.ensures
