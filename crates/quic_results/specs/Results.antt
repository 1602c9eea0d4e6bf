-- What functions exported to C return: a count, or the number of a failure.
use Rattle.std.specs.Prelude.{ℕ, ℤ, pos, negsuc, ◌-◌, List, Result, Ok, Err, codes, nat_eq, if◌then◌else◌}
use Rattle.std.specs.Cmp.Lexicographic.{pointwise}
use Rattle.quic_results.specs.declared.results.Failure.{Failure}
use Rattle.quic_results.specs.declared.results.Failure.TheVariants as failure

-- the number of a failure, without its sign
abbrev pub number_of : Failure → ℕ
number_of failure.Argument = 1
number_of failure.Place = 2
number_of failure.Kind = 3
number_of failure.Number = 5
number_of failure.Length = 6
number_of failure.Ranges = 7
number_of failure.Parameter = 8
number_of failure.NoRoom = 9
number_of failure.PayloadEmpty = 20
number_of failure.FrameEnd = 21
number_of failure.FrameType = 22
number_of failure.FrameMalformed = 23
number_of failure.FrameLongType = 24
number_of failure.FrameLimit = 25
number_of failure.FramePacket = 26
number_of failure.FrameSender = 27
number_of failure.FrameStream = 28
number_of failure.PacketEnd = 40
number_of failure.PacketFixedBit = 41
number_of failure.PacketSmall = 42
number_of failure.PacketId = 43
number_of failure.PacketToken = 44
number_of failure.PacketVersion = 45
number_of failure.PacketCut = 46
number_of failure.PacketRetry = 47
number_of failure.ParametersMalformed = 60
number_of failure.ParametersIllegal = 61

-- the number that a failure is returned as
abbrev pub failed : Failure → ℤ
failed f = negsuc (number_of f - 1)

-- the number that a result is returned as
abbrev pub returned : Result ℕ Failure → ℤ
returned (Ok count) = pos count
returned (Err f) = failed f

-- what is returned for the reason why a frame is invalid
abbrev pub frame_failure : List ℕ → Failure
frame_failure reason = if pointwise nat_eq reason (codes "unexpected end") then failure.FrameEnd
    else if pointwise nat_eq reason (codes "invalid frame ID") then failure.FrameType
    else if pointwise nat_eq reason (codes "frame type not in shortest form") then failure.FrameLongType
    else if pointwise nat_eq reason (codes "limit exceeded") then failure.FrameLimit
    else failure.FrameMalformed

-- the code of the CONNECTION_CLOSE that a failure leads to (RFC 9000, section 20.1): an INTERNAL_ERROR for the caller's
-- arguments; a PROTOCOL_VIOLATION for an empty payload, a type in a longer encoding, and a frame in the wrong packet or
-- from the wrong side (sections 12.4, 19.7 and 19.20); a STREAM_STATE_ERROR for a frame on a stream on which that side
-- may not send it (sections 19.4 to 19.13); a FRAME_ENCODING_ERROR for other frames; a TRANSPORT_PARAMETER_ERROR
-- (section 7.4); and NO_ERROR for packets, which are dropped (section 5.2)
abbrev pub code_of : Failure → ℕ
code_of failure.Argument = 0x01
code_of failure.Place = 0x01
code_of failure.Kind = 0x01
code_of failure.Number = 0x01
code_of failure.Length = 0x01
code_of failure.Ranges = 0x01
code_of failure.Parameter = 0x01
code_of failure.NoRoom = 0x01
code_of failure.PayloadEmpty = 0x0a
code_of failure.FrameEnd = 0x07
code_of failure.FrameType = 0x07
code_of failure.FrameMalformed = 0x07
code_of failure.FrameLongType = 0x0a
code_of failure.FrameLimit = 0x07
code_of failure.FramePacket = 0x0a
code_of failure.FrameSender = 0x0a
code_of failure.FrameStream = 0x05
code_of failure.ParametersMalformed = 0x08
code_of failure.ParametersIllegal = 0x08
code_of _ = 0x00
