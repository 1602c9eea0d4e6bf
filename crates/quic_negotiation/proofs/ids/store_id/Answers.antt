-- The id follows its length.
use Rattle.std.proofs.Common.{ℕ, List, ◌++◌, ◌∷◌, [], ◌∙◌, length, take, ap, arith}
use Rattle.std.proofs.lemmas.List.{append_assoc}
use Rattle.quic_base.proofs.Storing.{stays}
use Rattle.quic_negotiation.proofs.ids.store_id.Goals as goal

pub returns-clause-front : goal.returns-clause-front
returns-clause-front c =
    let id : List ℕ = c.args.id.now in
    let front : List ℕ = take c.args.at c.args.dest.now in
    c.store_bytes.ensures.front ∙ ap (λ (xs : List ℕ). xs ++ id) c.store_array-at.ensures.front
    ∙ append_assoc front (length id ∷ []) id

pub returns-clause-back : goal.returns-clause-back
returns-clause-back c =
    c.store_bytes.ensures.back
    ∙ stays c.store_array-at.result c.store_bytes.result _ _ c.store_array-at.ensures.back (omega arith)
