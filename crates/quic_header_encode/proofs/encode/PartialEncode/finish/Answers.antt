use Rattle.std.proofs.Common.{rules}
use Rattle.quic_header_encode.proofs.encode.PartialEncode.finish.Goals as goal

pub returns-clause-sealed : goal.returns-clause-sealed
returns-clause-sealed g c = search rules

pub returns-clause-bytes : goal.returns-clause-bytes
returns-clause-bytes g c = search rules
