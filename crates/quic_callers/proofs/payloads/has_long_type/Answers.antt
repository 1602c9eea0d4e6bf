use Rattle.quic_callers.proofs.LongTypes.{is_long}
use Rattle.quic_callers.proofs.payloads.has_long_type.Goals as goal

pub returns : goal.returns
returns c = is_long c.is_long_type.result c.args.invalid.now.reason.now c.is_long_type.ensures c.reasons.ensures.long c.reasons.ensures.others
