-- The body of a frame: what its shortest encoding has behind its type (RFC 9000, section 12.4).
use Rattle.std.specs.Prelude.{ℕ, List, Bool}
use Rattle.quic_frame_fields.specs.Payload.{Meaning}
use Rattle.quic_frame_fields.specs.Shortest.{written_type, shortest_row}
use Rattle.quic_frame_fields.specs.Table.{row_of}

-- the type with which a frame is written, the last of its payload or not
abbrev pub type_written : Bool → Meaning → ℕ
type_written last frame = written_type last frame.name frame.values

-- what it has behind that type
unfoldable pub shortest_body : Bool → Meaning → List ℕ
shortest_body last frame = shortest_row (row_of (type_written last frame)) frame.values
