-- Results with the same number are equal.
use Rattle.std.proofs.Common.{◌≡◌, ℕ, Result, Ok, Err, refl, sym, ap, ◌∙◌}
use Rattle.std.specs.Prelude.{◌==◌, if◌then◌else◌, ℤ, pos, negsuc}
use Rattle.quic_results.specs.declared.results.Failure.{Failure}
use Rattle.quic_results.specs.declared.results.Failure.TheVariants as failure
use Rattle.quic_results.specs.Results.{returned}

-- the result with this number
abbrev back : ℤ → Result ℕ Failure
back (pos n) = Ok n
back (negsuc n) =
    if n == 0 then Err failure.Argument
    else if n == 1 then Err failure.Place
    else if n == 2 then Err failure.Kind
    else if n == 4 then Err failure.Number
    else if n == 5 then Err failure.Length
    else if n == 6 then Err failure.Ranges
    else if n == 7 then Err failure.Parameter
    else if n == 8 then Err failure.NoRoom
    else if n == 19 then Err failure.PayloadEmpty
    else if n == 20 then Err failure.FrameEnd
    else if n == 21 then Err failure.FrameType
    else if n == 22 then Err failure.FrameMalformed
    else if n == 23 then Err failure.FrameLongType
    else if n == 24 then Err failure.FrameLimit
    else if n == 25 then Err failure.FramePacket
    else if n == 26 then Err failure.FrameSender
    else if n == 27 then Err failure.FrameStream
    else if n == 39 then Err failure.PacketEnd
    else if n == 40 then Err failure.PacketFixedBit
    else if n == 41 then Err failure.PacketSmall
    else if n == 42 then Err failure.PacketId
    else if n == 43 then Err failure.PacketToken
    else if n == 44 then Err failure.PacketVersion
    else if n == 45 then Err failure.PacketCut
    else if n == 46 then Err failure.PacketRetry
    else if n == 59 then Err failure.ParametersMalformed
    else Err failure.ParametersIllegal

again : (r : Result ℕ Failure) → back (returned r) ≡ r
again (Ok n) = refl
again (Err failure.Argument) = refl
again (Err failure.Place) = refl
again (Err failure.Kind) = refl
again (Err failure.Number) = refl
again (Err failure.Length) = refl
again (Err failure.Ranges) = refl
again (Err failure.Parameter) = refl
again (Err failure.NoRoom) = refl
again (Err failure.PayloadEmpty) = refl
again (Err failure.FrameEnd) = refl
again (Err failure.FrameType) = refl
again (Err failure.FrameMalformed) = refl
again (Err failure.FrameLongType) = refl
again (Err failure.FrameLimit) = refl
again (Err failure.FramePacket) = refl
again (Err failure.FrameSender) = refl
again (Err failure.FrameStream) = refl
again (Err failure.PacketEnd) = refl
again (Err failure.PacketFixedBit) = refl
again (Err failure.PacketSmall) = refl
again (Err failure.PacketId) = refl
again (Err failure.PacketToken) = refl
again (Err failure.PacketVersion) = refl
again (Err failure.PacketCut) = refl
again (Err failure.PacketRetry) = refl
again (Err failure.ParametersMalformed) = refl
again (Err failure.ParametersIllegal) = refl

pub distinct : (one other : Result ℕ Failure) → returned one ≡ returned other → one ≡ other
distinct one other same = sym (again one) ∙ ap back same ∙ again other
