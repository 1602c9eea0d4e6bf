use Rattle.quic_frames.proofs.Reasons.{others_differ}
use Rattle.quic_frames.proofs.laws.reasons.Goals as goal

pub returns-clause-others : goal.returns-clause-others
returns-clause-others c = others_differ
