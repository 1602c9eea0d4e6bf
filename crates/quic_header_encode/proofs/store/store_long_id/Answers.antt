use Rattle.std.proofs.Common.{ℕ, ◌+◌, ◌∙◌, arith}
use Rattle.quic_base.proofs.Storing.{stays}
use Rattle.quic_header_encode.proofs.store.store_long_id.Goals as goal

pub returns-clause-back : goal.returns-clause-back
returns-clause-back g c =
    let room : ℕ = g.I.StoredId.room c.args.id in
    let end : ℕ = c.args.at + (1 + room) in
    stays (c.store_array-at.result + room) end _ _ c.store.ensures.back (omega arith)
    ∙ stays c.store_array-at.result end _ _ c.store_array-at.ensures.back (omega arith)
