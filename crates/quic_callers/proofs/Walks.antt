-- The error of a payload, as it is reported.
use Rattle.std.proofs.Common.{false, ℕ, List, subst, inr}
use Rattle.quic_callers.specs.Reported.{IsReported}
use Rattle.quic_errors.specs.Codes.{IsErrorOf}
use Rattle.quic_errors.specs.declared.transport_error.Error.{Error}
use Rattle.quic_errors.specs.declared.invalid_frame.InvalidFrame.{InvalidFrame}
use Rattle.quic_frame_fields.specs.Payload.{TypedFrame}
use Rattle.quic_frame_fields.specs.Reading.{Invalid}
use Rattle.quic_frames.specs.IterState.{IterState}
use Rattle.quic_frames.specs.Walk.{Fails, invalid_of}
use Rattle.quic_frames.proofs.Turns.{HasRead, has_read_error}

pub reports : (payload : List ℕ) (found : List TypedFrame) (state next : IterState) (invalid : InvalidFrame) (error : Error)
    → HasRead false payload found state → Fails state invalid next → IsErrorOf invalid.ty invalid.reason.now error
    → IsReported payload error
reports payload found state next invalid error read f is =
    let l = f.lacks in
    inr (
      found,
      l.type,
      l.reason,
      has_read_error false payload found state (invalid_of invalid) read l,
      subst (λ (x : Invalid). IsErrorOf x.type x.reason error) l.says is,
    )
