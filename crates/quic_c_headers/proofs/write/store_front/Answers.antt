use Rattle.std.proofs.Common.{refl}
use Rattle.quic_c_headers.proofs.write.store_front.Goals as goal

pub returns-clause-back : goal.returns-clause-back
returns-clause-back c = c.store_long_start.ensures.back refl refl
