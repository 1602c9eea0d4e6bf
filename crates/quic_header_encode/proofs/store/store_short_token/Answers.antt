-- A token after its length, which is a byte.
use Rattle.std.proofs.Common.{◌∙◌, length, refl, arith}
use Rattle.quic_header_encode.proofs.Stores.{token_stored, no_token_stored}
use Rattle.quic_base.proofs.Storing.{stays}
use Rattle.quic_header_encode.proofs.store.store_short_token.Goals as goal

pub returns-then-token-eq0-clause-front : goal.returns-then-token-eq0-clause-front
returns-then-token-eq0-clause-front g c =
    no_token_stored (length c.args.token.now) c.args.token.now _ _ refl c.if-token-eq0.true c.store_array-at.ensures.front

pub returns-else-token-eq0-clause-front : goal.returns-else-token-eq0-clause-front
returns-else-token-eq0-clause-front g c =
    c.store_some.ensures.front
    ∙ token_stored (length c.args.token.now) c.args.token.now _ _ refl c.requires.small c.store_array-at.ensures.front

pub returns-else-token-eq0-clause-back : goal.returns-else-token-eq0-clause-back
returns-else-token-eq0-clause-back g c =
    c.store_some.ensures.back
    ∙ stays c.store_array-at.result c.store_some.result _ _ c.store_array-at.ensures.back (omega arith)
