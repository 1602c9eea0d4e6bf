use Rattle.std.proofs.Common.{ℕ, ◌+◌, ◌∙◌, arith}
use Rattle.quic_base.proofs.Storing.{stays}
use Rattle.quic_header_encode.proofs.store.store_long_start.Goals as goal

pub returns-clause-back : goal.returns-clause-back
returns-clause-back g c = λ dst src.
    let end : ℕ = c.store_long_id.result in
    stays (c.store_long_id-at.result + (1 + g.I.StoredId.room c.args.src)) end _ _ c.store_long_id.ensures.back (omega arith)
    ∙ stays (c.store_array-at-2.result + (1 + g.I.StoredId.room c.args.dst)) end _ _ c.store_long_id-at.ensures.back (omega arith)
    ∙ stays c.store_array-at-2.result end _ _ c.store_array-at-2.ensures.back (omega arith)
    ∙ stays c.store_array-at.result end _ _ c.store_array-at.ensures.back (omega arith)
