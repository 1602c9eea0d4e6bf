-- The error of a payload that can't be read.
use Rattle.std.specs.Prelude.{◌≡◌, ◌⊎◌, ℕ, List, [], Option, None, false, codes}
use Rattle.quic_errors.specs.Codes.{IsError, IsErrorOf, protocol_violation}
use Rattle.quic_errors.specs.declared.transport_error.Error.{Error}
use Rattle.quic_frame_fields.specs.Payload.{TypedFrame, IsBroken}
use Rattle.quic_frame_fields.specs.Reading.{reason_text}
use Rattle.quic_frame_fields.specs.declared.frame.fault.Fault.{Fault}

-- The payload has no frame, or it is frames and then an invalid one, and the error has its type and the reason.
abbrev pub IsReported : List ℕ → Error → Type 0
IsReported payload error =
    ((payload ≡ []) × IsError error protocol_violation (codes "packet payload is empty"))
    ⊎ ((found : List TypedFrame) × (type : Option ℕ) × (reason : Fault) × IsBroken false None found payload type reason
    × IsErrorOf type (reason_text reason) error)
