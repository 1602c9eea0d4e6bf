-- The packets of a datagram, one after another (RFC 9000, section 12.2), and how a walk over them stores their headers.
use Rattle.std.specs.Prelude.{◌≡◌, ℕ, ℤ, pos, ◌+◌, ◌<◌, ◌≤◌, List, [], ◌∷◌, drop, length, take, zero, suc, Result, Ok, Err}
use Rattle.quic_header_decode.specs.declared.protected.ProtectedHeader.{ProtectedHeader}
use Rattle.quic_header_decode.specs.Datagram.{PlacedPacket}
use Rattle.quic_header_decode.specs.Rfc.{RfcRefusal}
use Rattle.quic_c_headers.specs.Packets.{header_shown, StandsFor}
use Rattle.quic_c_headers.specs.declared.words.CHeader.{CHeader}
use Rattle.quic_results.specs.declared.results.Failure.{Failure}
use Rattle.quic_results.specs.declared.results.Failure.TheVariants as failure
use Rattle.quic_results.specs.Results.{failed}

-- a header, where it ends, and where its packet ends, counted from the packet's front
abbrev pub Packet : Type 0
Packet = ProtectedHeader × ℕ × ℕ

-- a row of packets ends with the datagram, with bytes that begin with none, for this reason, or because there is room
-- for no more
pub data RowEnd : Type 0 where
  AtEnd NoRoom : RowEnd
  Refused : RfcRefusal → RowEnd

-- If First says what the first packet of bytes is, these are the bytes' packets, at most so many.
pub data AreInRow (First : List ℕ → Result Packet RfcRefusal → Type 0) : ℕ → List ℕ → List Packet → RowEnd → Type 0
  where
    last : (room : ℕ) (bytes : List ℕ) (h : ProtectedHeader) (header_end : ℕ)
        → First bytes (Ok (h, header_end, length bytes))
        → AreInRow First (suc room) bytes ((h, header_end, length bytes) ∷ []) AtEnd
    more : (room : ℕ) (bytes : List ℕ) (h : ProtectedHeader) (header_end end : ℕ) (others : List Packet)
        (why : RowEnd)
        → First bytes (Ok (h, header_end, end)) → end < length bytes
        → AreInRow First room (drop end bytes) others why
        → AreInRow First (suc room) bytes ((h, header_end, end) ∷ others) why
    refused : (room : ℕ) (bytes : List ℕ) (e : RfcRefusal) → First bytes (Err e)
        → AreInRow First (suc room) bytes [] (Refused e)
    full : (bytes : List ℕ) → AreInRow First zero bytes [] NoRoom

abbrev pub IsRow : (First : List ℕ → Result Packet RfcRefusal → Type 0) → ℕ → List ℕ → List Packet × RowEnd → Type 0
IsRow First room bytes row = AreInRow First room bytes row.0 row.1

-- The fields describe the packets, of which the first begins the bytes.
abbrev pub AreShown : List ℕ → List Packet → List CHeader → Type 0
AreShown bytes [] heads = heads ≡ []
AreShown bytes (packet ∷ packets) [] = ⊥
AreShown bytes (packet ∷ packets) (head ∷ heads) =
    (packet.0 ≡ header_shown bytes head) × (head.header_end ≡ packet.1) × (head.end ≡ packet.2)
    × AreShown (drop packet.2 bytes) packets heads

-- what a walk returns at the end of a row
abbrev pub EndsBy : RowEnd → ℤ → Type 0
EndsBy AtEnd result = result ≡ pos 0
EndsBy NoRoom result = result ≡ failed failure.NoRoom
EndsBy (Refused e) result = (why : Failure) × (result ≡ failed why) × StandsFor why e

-- So many headers were stored, those of the row, and the result says how it ends.
pub record StoresRow (bytes : List ℕ) (count : ℕ) (result : ℤ) (heads : List CHeader) (row : List Packet × RowEnd) : Type 0
  where
    pub few : count ≤ length heads
    pub shown : AreShown bytes row.0 (take count heads)
    pub why : EndsBy row.1 result

-- the packets that the fields describe, of which the first begins the bytes, at this offset of their datagram
abbrev pub placed_shown : ℕ → List ℕ → List CHeader → List PlacedPacket
placed_shown start bytes [] = []
placed_shown start bytes (head ∷ heads) =
    record { start = start; stop = start + head.end; header = header_shown bytes head }
    ∷ placed_shown (start + head.end) (drop head.end bytes) heads
