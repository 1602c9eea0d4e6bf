use Rattle.std.proofs.Common.{refl}
use Rattle.quic_params.proofs.Written.{refused_first, then_last}
use Rattle.quic_params.proofs.value.PreferredAddress.encode.Goals as goal

pub returns-in_err-write_v4 : goal.returns-in_err-write_v4
returns-in_err-write_v4 g c =
    refused_first _ c.write_v4.result _ _ _ _ _ _ _ _ _ refl c.write_v4.ensures c.in_err-write_v4.was c.from_residual.ensures.1

pub returns : goal.returns
returns g c =
    then_last c.write_v4.result c.write_after_v4.result _ _ _ _ _ _ _ _ _ refl c.write_v4.ensures c.in_ok-write_v4.was
    c.write_after_v4.ensures
