use Rattle.std.proofs.Common.{◌∙◌, arith}
use Rattle.quic_base.proofs.Storing.{stays}
use Rattle.quic_c_headers.proofs.write.store_end.Goals as goal

pub returns-clause-back : goal.returns-clause-back
returns-clause-back c =
    c.store_low.ensures.back
    ∙ stays c.store_no_length-at.result c.store_low.result _ _ c.store_no_length-at.ensures.back (omega arith)
