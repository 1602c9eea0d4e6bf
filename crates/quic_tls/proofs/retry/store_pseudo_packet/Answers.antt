use Rattle.std.proofs.Common.{◌∙◌, ◌++◌, ◌-◌, ℕ, List, length, take, ap, arith}
use Rattle.quic_base.proofs.Storing.{stays}
use Rattle.quic_tls.proofs.retry.store_pseudo_packet.Goals as goal

pub returns-clause-front : goal.returns-clause-front
returns-clause-front c =
    let kept : List ℕ = take (length c.args.retry.now - 16) c.args.retry.now in
    c.store_bytes.ensures.front ∙ ap (λ (xs : List ℕ). xs ++ kept) c.store_bytes-at.ensures.front
    ∙ ap (λ (xs : List ℕ). (xs ++ c.args.original.now) ++ kept) c.store_array-at.ensures.front

pub returns-clause-back : goal.returns-clause-back
returns-clause-back c =
    let n : ℕ = c.store_bytes.result in
    c.store_bytes.ensures.back ∙ stays c.store_bytes-at.result n _ _ c.store_bytes-at.ensures.back (omega arith)
    ∙ stays c.store_array-at.result n _ _ c.store_array-at.ensures.back (omega arith)
