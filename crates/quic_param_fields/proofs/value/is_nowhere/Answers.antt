use Rattle.std.proofs.Common.{drop, replicate}
use Rattle.std.proofs.lemmas.Bool.Decides.{Decides-eqb}
use Rattle.std.proofs.lemmas.Slice.Eq.{starts_is}
use Rattle.quic_param_fields.proofs.value.is_nowhere.Goals as goal

pub returns : goal.returns
returns c =
    let s = starts_is Decides-eqb c.args.value.now (replicate 24 0) c.starts_with.result c.starts_with.ensures.value in
    (λ t. (drop 24 c.args.value.now, s.0 t), λ h. s.1 h.0 h.1)
