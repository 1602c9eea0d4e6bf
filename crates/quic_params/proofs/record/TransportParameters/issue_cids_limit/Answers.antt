use Rattle.std.proofs.Common.{rules}
use Rattle.quic_params.proofs.record.TransportParameters.issue_cids_limit.Goals as goal

pub returns : goal.returns
returns c = search rules
