use Rattle.std.specs.Prelude.{None}
use Rattle.quic_wire.specs.Rfc.{rfc_rules}
use Rattle.quic_wire.proofs.Allowed.{is_allowed_payload, reads_allowed}
use Rattle.quic_wire.proofs.FaultsFound.{is_found}
use Rattle.quic_wire.proofs.FirstFaults.{first_fault}
use Rattle.quic_wire.proofs.rfc.rfc_payloads.Goals as goal

pub returns-clause-one : goal.returns-clause-one
returns-clause-one c = λ negotiated payload fits. c.checked_readings.ensures.one (rfc_rules negotiated) None payload fits

pub returns-clause-allowed : goal.returns-clause-allowed
returns-clause-allowed c = λ negotiated frames payload some.
    (is_allowed_payload negotiated frames payload some, reads_allowed negotiated frames payload)

pub returns-clause-first : goal.returns-clause-first
returns-clause-first c = λ negotiated frames payload reported fits. (
  first_fault negotiated frames payload reported,
  is_found c.lasting.ensures.frames c.one_reading.ensures.one negotiated frames payload reported fits,
)
