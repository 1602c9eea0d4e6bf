use Rattle.std.proofs.Common.{◌∙◌, arith}
use Rattle.quic_base.proofs.Storing.{stays}
use Rattle.quic_header_encode.proofs.store.store_long_token.Goals as goal

pub returns-clause-back : goal.returns-clause-back
returns-clause-back c =
    c.store_bytes.ensures.back
    ∙ stays c.store_var-at.result c.store_bytes.result _ _ c.store_var-at.ensures.back (omega arith)
