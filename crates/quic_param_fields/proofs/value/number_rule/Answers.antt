use Rattle.quic_param_fields.proofs.value.number_rule.Goals as goal

pub unreachable-requires : goal.unreachable-requires
unreachable-requires c = c.in_default.ensures.value c.requires.number.0 c.requires.number.1
