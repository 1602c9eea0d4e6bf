-- Three numbers in a row: two varints and one of eight bytes.
use Rattle.std.specs.Prelude.{ℕ, List, ◌++◌}
use Rattle.quic_base.specs.Number.{IsNumber, bytes_of}
use Rattle.quic_base.specs.Varint.{Encodes, shortest_varint}
use Rattle.quic_base.specs.Codec.{Follows}

-- an encoding of each
abbrev pub EncodesReset : ℕ → ℕ → ℕ → List ℕ → Type 0
EncodesReset id code offset = Follows (Encodes id) (Follows (Encodes code) (IsNumber 8 offset))

-- the one that is written
abbrev pub reset_bytes : ℕ → ℕ → ℕ → List ℕ
reset_bytes id code offset = shortest_varint id ++ (shortest_varint code ++ bytes_of 8 offset)
