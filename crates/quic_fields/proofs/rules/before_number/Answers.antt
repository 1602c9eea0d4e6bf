use Rattle.std.proofs.Common.{◌∙◌, ◌-◌, ℕ, map, take, sym, ap}
use Rattle.std.specs.List.{take-map}
use Rattle.quic_fields.specs.Kinds.{field_of}
use Rattle.quic_fields.proofs.rules.before_number.Goals as goal

pub returns-clause-fields : goal.returns-clause-fields
returns-clause-fields c =
    sym (take-map field_of (c.number_index.result - 1) c.args.kinds.now)
    ∙ ap (λ (k : ℕ). take (k - 1) (map field_of c.args.kinds.now)) c.number_index.ensures.index
