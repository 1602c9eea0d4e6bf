-- What the program prints of a datagram's packets.
use Rattle.std.specs.Prelude.{ℕ, ◌-◌, false, List, [], ◌∷◌, ◌++◌, Option, Some, None, codes, map, length, replicate}
use Rattle.std.specs.Fmt.{decimal, digits}
use Rattle.quic_base.specs.ConnectionId.{id_text}
use Rattle.quic_base.specs.declared.ids.TheConstants.{DEFAULT_SUPPORTED_VERSIONS}
use Rattle.quic_header_encode.specs.declared.long_type.LongType.{LongType}
use Rattle.quic_header_encode.specs.declared.long_type.LongType.TheVariants.{Handshake, ZeroRtt}
use Rattle.quic_header_decode.specs.Datagram.{PlacedPacket, packets_in}
use Rattle.quic_header_decode.specs.Parsers.{fixed_parsed}
use Rattle.quic_header_decode.specs.Reading.{read_by, DecodeOptions}
use Rattle.quic_header_decode.specs.Refusal.{Refusal, Invalid, Unsupported, NoMemory}
use Rattle.quic_header_decode.specs.declared.protected.ProtectedHeader.{ProtectedHeader}
use Rattle.quic_header_decode.specs.declared.protected.ProtectedHeader.TheVariants as protected
use Rattle.quic_text.specs.Printed.{Printed, Plain, Error}

-- how datagrams are read: ids of short headers have that many bytes, the versions are the usual ones, and the fixed bit
-- is asked for
abbrev pub with_ids_of : ℕ → DecodeOptions
with_ids_of len = read_by (fixed_parsed len) DEFAULT_SUPPORTED_VERSIONS.now false

-- an id in hexadecimal, and an empty one as a dash
abbrev pub id_or_dash : List ℕ → List ℕ
id_or_dash [] = codes "-"
id_or_dash (byte ∷ bytes) = id_text (byte ∷ bytes)

-- a number in eight hexadecimal digits
abbrev pub eight_digits : ℕ → List ℕ
eight_digits n = replicate (8 - length (digits 16 false n)) 48 ++ digits 16 false n

abbrev pub long_name : LongType → List ℕ
long_name Handshake = codes "handshake"
long_name ZeroRtt = codes "0rtt"

-- `KIND dst ID src ID version VVVVVVVV`
abbrev pub long_text : List ℕ → List ℕ → List ℕ → ℕ → List ℕ
long_text kind dst src version = kind ++ codes " dst " ++ id_or_dash dst ++ codes " src " ++ id_or_dash src
    ++ codes " version " ++ eight_digits version

-- what a header says; the byte range of an Initial packet's token counts from the packet's first byte
abbrev pub header_text : ProtectedHeader → List ℕ
header_text (protected.Initial h) = long_text (codes "initial") h.dst_cid h.src_cid h.version ++ codes " token "
    ++ decimal h.token_pos.start ++ codes ".." ++ decimal h.token_pos.end
header_text (protected.Long ty dst src len version) = long_text (long_name ty) dst src version
header_text (protected.Retry dst src version) = long_text (codes "retry") dst src version
header_text (protected.Short spin dst) = codes "short dst " ++ id_or_dash dst
header_text (protected.VersionNegotiate random dst src) = long_text (codes "version-negotiation") dst src 0

-- `START..END HEAD`
abbrev pub packet_line : PlacedPacket → Printed
packet_line p = Plain (decimal p.start ++ codes ".." ++ decimal p.stop ++ codes " " ++ header_text p.header)

abbrev pub refusal_text : Refusal → List ℕ
refusal_text (Invalid reason) = reason
refusal_text (Unsupported src dst version) = codes "unsupported version " ++ digits 16 false version
refusal_text NoMemory = codes "out of memory"

abbrev pub refusal_lines : Option Refusal → List Printed
refusal_lines None = []
refusal_lines (Some e) = Error (refusal_text e) ∷ []

-- a line for each packet, and an `error` line if the rest is rejected
abbrev pub row_lines : List PlacedPacket → Option Refusal → List Printed
row_lines packets refusal = map packet_line packets ++ refusal_lines refusal

-- what is printed for a datagram by `datagram`
abbrev pub datagram_lines : ℕ → List ℕ → List Printed
datagram_lines len bytes = row_lines (packets_in (with_ids_of len) bytes).0 (packets_in (with_ids_of len) bytes).1
