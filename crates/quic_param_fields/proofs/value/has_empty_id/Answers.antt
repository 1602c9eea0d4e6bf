use Rattle.quic_param_fields.proofs.Reading.{empty_test}
use Rattle.quic_param_fields.proofs.value.has_empty_id.Goals as goal

pub returns-then-value-gt24 : goal.returns-then-value-gt24
returns-then-value-gt24 c = empty_test c.args.value.now c.if-value-gt24.true
