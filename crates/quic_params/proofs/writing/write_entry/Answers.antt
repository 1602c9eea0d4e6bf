use Rattle.std.proofs.Common.{refl}
use Rattle.quic_params.proofs.Written.{refused_first, then_last, entry_is}
use Rattle.quic_params.proofs.writing.write_entry.Goals as goal

pub returns-in_err-write_header : goal.returns-in_err-write_header
returns-in_err-write_header g c =
    refused_first _ c.write_header.result _ _ _ _ _ _ _ _ _ (entry_is c.args.number _ c.args.bytes.now _ refl refl)
    c.write_header.ensures c.in_err-write_header.was c.from_residual.ensures.1

pub returns : goal.returns
returns g c =
    then_last c.write_header.result c.write_bytes.result _ _ _ _ _ _ _ _ _
    (entry_is c.args.number _ c.args.bytes.now _ refl refl) c.write_header.ensures c.in_ok-write_header.was
    c.write_bytes.ensures
