use Rattle.std.proofs.Common.{[], ◌∷◌}
use Rattle.std.proofs.lemmas.Result.{err_from_is_err_and}
use Rattle.quic_frame_fields.specs.Numbers.{shortest_varints}
use Rattle.quic_base.proofs.Encoders.{wrote_first, writes_last, writes_begun}
use Rattle.quic_frame_fields.proofs.Encoding.{id_parts}
use Rattle.quic_frame_fields.proofs.frame.NewConnectionId.encode.Goals as goal

pub returns-in_err-numbers : goal.returns-in_err-numbers
returns-in_err-numbers g c last =
    let x = c.args.self.now in
    let p = err_from_is_err_and c.from_residual.result c.from_residual.ensures.1 in
    rw (id_parts last x.sequence x.retire_prior_to x.id x.reset_token)
    (writes_begun c.numbers.result c.from_residual.result p.0
    (shortest_varints (0x18 ∷ x.sequence ∷ x.retire_prior_to ∷ [])) _ _ _ _ _ _ c.numbers.ensures
    c.in_err-numbers.was p.1)

pub returns : goal.returns
returns g c last =
    let x = c.args.self.now in
    rw (id_parts last x.sequence x.retire_prior_to x.id x.reset_token, ← c.as_slice.ensures.value)
    (writes_last c.id_and_bytes.result (shortest_varints (0x18 ∷ x.sequence ∷ x.retire_prior_to ∷ [])) _ _ _ _ _ _ _
    (wrote_first c.numbers.result _ _ _ _ _ c.numbers.ensures c.in_ok-numbers.was) c.id_and_bytes.ensures)
