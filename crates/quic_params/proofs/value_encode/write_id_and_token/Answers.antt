use Rattle.std.proofs.Common.{refl}
use Rattle.quic_params.proofs.Written.{refused_first, then_last}
use Rattle.quic_params.proofs.value_encode.write_id_and_token.Goals as goal

pub returns-in_err-write_long_id : goal.returns-in_err-write_long_id
returns-in_err-write_long_id g c =
    refused_first _ c.write_long_id.result _ _ _ _ _ _ _ _ _ refl c.write_long_id.ensures c.in_err-write_long_id.was
    c.from_residual.ensures.1

pub returns : goal.returns
returns g c =
    then_last c.write_long_id.result c.write_bytes.result _ _ _ _ _ _ _ _ _ (rw c.as_slice.ensures.value refl)
    c.write_long_id.ensures c.in_ok-write_long_id.was c.write_bytes.ensures
