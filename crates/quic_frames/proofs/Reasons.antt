-- The texts of reasons.
use Rattle.std.proofs.Common.{◌≡◌, ◌≢◌, length, refl, ap, arith}
use Rattle.quic_errors.specs.Codes.{long_type_reason}
use Rattle.quic_frame_fields.specs.declared.frame.fault.Fault.{Fault}
use Rattle.quic_frame_fields.specs.declared.frame.fault.Fault.TheVariants.{UnexpectedEnd, InvalidFrameId, Malformed, LongType}
use Rattle.quic_frame_fields.specs.Reading.{reason_text}

pub others_differ : (reason : Fault) → reason ≢ LongType → reason_text reason ≢ long_type_reason
others_differ UnexpectedEnd other e = absurd (let n : 14 ≡ 31 = ap length e in omega (arith, n))
others_differ InvalidFrameId other e = absurd (let n : 16 ≡ 31 = ap length e in omega (arith, n))
others_differ Malformed other e = absurd (let n : 9 ≡ 31 = ap length e in omega (arith, n))
others_differ LongType other e = other refl
