use Rattle.quic_base.specs.Codec.{Follows}
use Rattle.quic_base.specs.Number.{IsNumber}
use Rattle.quic_base.specs.Varint.{Encodes}
use Rattle.quic_base.proofs.PublicLaws.{cut_first, cut_second, on_err, encodes_unique}
use Rattle.quic_callers.proofs.client.read_reset.Goals as goal

pub returns-in_err-id-clause-cut : goal.returns-in_err-id-clause-cut
returns-in_err-id-clause-cut g c = on_err c.from_residual.result (λ id code offset.
    cut_first (Encodes id) (Follows (Encodes code) (IsNumber 8 offset)) _ (c.in_err-id.ensures.cut id))

pub returns-in_err-code-clause-cut : goal.returns-in_err-code-clause-cut
returns-in_err-code-clause-cut g c = on_err c.from_residual-in_err-code.result (λ id code offset.
    cut_second Encodes (Follows (Encodes code) (IsNumber 8 offset)) _ _ c.in_ok-id.id id encodes_unique c.in_ok-id.ensures.ok
    (cut_first (Encodes code) (IsNumber 8 offset) _ (c.in_err-code.ensures.cut code)))

pub returns-in_err-final_offset-clause-cut : goal.returns-in_err-final_offset-clause-cut
returns-in_err-final_offset-clause-cut g c = on_err c.from_residual-in_err-final_offset.result (λ id code offset.
    cut_second Encodes (Follows (Encodes code) (IsNumber 8 offset)) _ _ c.in_ok-id.id id encodes_unique c.in_ok-id.ensures.ok
    (cut_second Encodes (IsNumber 8 offset) _ _ c.in_ok-code.code code encodes_unique c.in_ok-code.ensures.ok
    (c.in_err-final_offset.ensures.cut offset)))
