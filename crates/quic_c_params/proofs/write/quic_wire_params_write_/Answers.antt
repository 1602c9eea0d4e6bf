use Rattle.std.proofs.Common.{rules}
use Rattle.quic_c_params.proofs.write.quic_wire_params_write_.Goals as goal

pub returns-in-Ok-clause-wrote : goal.returns-in-Ok-clause-wrote
returns-in-Ok-clause-wrote c = search rules

pub returns-in-Err-clause-room : goal.returns-in-Err-clause-room
returns-in-Err-clause-room c = search rules
