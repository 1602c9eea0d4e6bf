-- Streams, sides and codepoints: RFC 9000, sections 2.1, 12.3 and 13.4.
use Rattle.std.specs.Prelude.{◌==◌, ℕ, ◌+◌, ◌*◌, ◌/◌, ◌%◌, List, ◌++◌, codes, if◌then◌else◌}
use Rattle.std.specs.Fmt.{decimal}
use Rattle.quic_base.specs.declared.ids.Side.{Side}
use Rattle.quic_base.specs.declared.ids.Side.TheVariants.{Client, Server}
use Rattle.quic_base.specs.declared.ids.Dir.{Dir}
use Rattle.quic_base.specs.declared.ids.Dir.TheVariants.{Bi, Uni}
use Rattle.quic_base.specs.declared.ids.EcnCodepoint.{EcnCodepoint}
use Rattle.quic_base.specs.declared.ids.EcnCodepoint.TheVariants.{Ect0, Ect1, Ce}

-- the lowest bit of a stream id: who opened the stream
abbrev pub side_number : Side → ℕ
side_number Client = 0
side_number Server = 1

-- the bit above it: whether data flow both ways
abbrev pub dir_number : Dir → ℕ
dir_number Bi = 0
dir_number Uni = 1

-- the id of a stream: its count among those of its side and direction, then these two bits
abbrev pub stream_number : Side → Dir → ℕ → ℕ
stream_number side dir index = 4 * index + 2 * dir_number dir + side_number side

abbrev pub other_side : Side → Side
other_side Client = Server
other_side Server = Client

abbrev pub side_text : Side → List ℕ
side_text Client = codes "client"
side_text Server = codes "server"

abbrev pub dir_text : Dir → List ℕ
dir_text Bi = codes "bidirectional"
dir_text Uni = codes "unidirectional"

-- the side and the direction of the stream id n
abbrev pub initiator_of : ℕ → Side
initiator_of n = if n % 2 == 0 then Client else Server

abbrev pub dir_of : ℕ → Dir
dir_of n = if n / 2 % 2 == 0 then Bi else Uni

-- the text of the stream id n
abbrev pub stream_text : ℕ → List ℕ
stream_text n = side_text (initiator_of n) ++ codes " " ++ dir_text (dir_of n) ++ codes " stream " ++ decimal (n / 4)

-- the two bits of a codepoint
abbrev pub ecn_bits : EcnCodepoint → ℕ
ecn_bits Ect0 = 2
ecn_bits Ect1 = 1
ecn_bits Ce = 3
