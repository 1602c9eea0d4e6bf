-- What is printed of an input of one line.
use Rattle.std.specs.Prelude.{◌≡◌, ℕ, List, [], ◌∷◌, ◌++◌, Option, Ok}
use Rattle.std.specs.List.{flat_map}
use Rattle.hex.specs.Hex.{decode_of}
use Rattle.quic_header_decode.specs.Datagram.{PlacedPacket, ArePackets}
use Rattle.quic_header_decode.specs.Reading.{DecodeOptions}
use Rattle.quic_header_decode.specs.Refusal.{Refusal}
use Rattle.quic_text.specs.Lines.{lines_of, without_return}
use Rattle.quic_text.specs.Printed.{Printed, line_bytes}

-- if all that was read since is one line that encodes these bytes, these lines were printed
abbrev pub Prints : List ℕ → List Printed → List ℕ → List ℕ → List ℕ → List ℕ → Type 0
Prints bytes lines given given' taken taken' =
    (input line : List ℕ) → given' ≡ given ++ input → lines_of input ≡ line ∷ []
    → decode_of (without_return line) ≡ Ok bytes
    → taken' ≡ taken ++ flat_map line_bytes lines

-- the datagram is these packets, up to its end or to this error, and no others
pub record IsOneRow (context : DecodeOptions) (bytes : List ℕ) (packets : List PlacedPacket)
    (refusal : Option Refusal) : Type 0 where
  pub are : ArePackets context 0 bytes packets refusal
  pub alone : (others : List PlacedPacket) (other : Option Refusal) → ArePackets context 0 bytes others other
      → (others ≡ packets) × (other ≡ refusal)
