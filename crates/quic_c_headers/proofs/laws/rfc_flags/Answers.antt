use Rattle.std.proofs.Common.{refl}
use Rattle.quic_c_headers.proofs.RfcFlags.{rfc_same}
use Rattle.quic_c_headers.proofs.laws.rfc_flags.Goals as goal

pub returns-clause-fixed : goal.returns-clause-fixed
returns-clause-fixed c = λ versions packet. (
  (λ lacks. (lacks.some, lacks.clear, lacks.counts refl)),
  (λ is. record { some = is.0; clear = is.1; asked = refl; counts = λ _. is.2 }),
)

pub returns-clause-packet : goal.returns-clause-packet
returns-clause-packet c = rfc_same
