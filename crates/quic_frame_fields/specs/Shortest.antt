-- The shortest encoding of a frame, the last of its payload or not.
use Rattle.std.specs.Prelude.{ℕ, ◌+◌, ◌-◌, List, [], ◌∷◌, ◌++◌, ◌==◌, length, take, max, Option, Some, None, Bool, if◌then◌else◌}
use Rattle.quic_base.specs.Number.{bytes_of}
use Rattle.quic_base.specs.Varint.{shortest_varint, size}
use Rattle.quic_frame_fields.specs.Field.{Value, Number, Bytes, Ranges, Field, Varint, Counted, Id, Uint64, Bytes16, Blocks, Rest, Ordered}
use Rattle.quic_frame_fields.specs.Table.{Name, Ack, Stream, Datagram, Row, row_of}
use Rattle.quic_frame_fields.specs.Payload.{Meaning}
use Rattle.quic_frame_fields.specs.Parts.{flag, named_type, connection_close, application_close}
use Rattle.quic_errors.specs.Types.{type_or_zero}
use Rattle.quic_frame_fields.specs.declared.frame.close.Close.{Close}
use Rattle.quic_frame_fields.specs.declared.frame.close.Close.TheVariants as closes

-- the blocks of ranges below one with the least number low, and of all ranges of an ACK after their count
abbrev pub shortest_below : ℕ → List (ℕ × ℕ) → List ℕ
shortest_below low [] = []
shortest_below low (range ∷ ranges) = shortest_varint (low - (range.1 + 2))
    ++ (shortest_varint (range.1 - range.0) ++ shortest_below range.0 ranges)

abbrev pub shortest_blocks : List (ℕ × ℕ) → List ℕ
shortest_blocks [] = []
shortest_blocks (range ∷ ranges) = shortest_varint (length ranges)
    ++ (shortest_varint (range.1 - range.0) ++ shortest_below range.0 ranges)

-- a field with the first of these values
abbrev pub shortest_of : Field → List Value → List ℕ
shortest_of Varint (Number n ∷ values) = shortest_varint n
shortest_of Counted (Bytes bytes ∷ values) = shortest_varint (length bytes) ++ bytes
shortest_of Id (Bytes bytes ∷ values) = length bytes ∷ bytes
shortest_of Uint64 (Number n ∷ values) = bytes_of 8 n
shortest_of Bytes16 (Bytes bytes ∷ values) = bytes
shortest_of Blocks (Ranges ranges ∷ values) = shortest_blocks ranges
shortest_of Rest (Bytes bytes ∷ values) = bytes
shortest_of field values = []

-- the values of the fields after it
abbrev pub values_after : Field → List Value → List Value
values_after Ordered values = values
values_after field [] = []
values_after field (value ∷ values) = values

abbrev pub shortest_fields : List Field → List Value → List ℕ
shortest_fields [] values = []
shortest_fields (field ∷ fields) values = shortest_of field values ++ shortest_fields fields (values_after field values)

-- the type with which a frame is written: an ACK's says whether it has ECN counts, that of a STREAM or a DATAGRAM
-- whether it is the last
abbrev pub written_type : Bool → Name → List Value → ℕ
written_type last Ack (greatest ∷ delay ∷ ranges ∷ []) = 0x02
written_type last Ack values = 0x03
written_type last Stream values = named_type Stream values + (if last then 0 else 2)
written_type last Datagram values = if last then 0x30 else 0x31
written_type last name values = named_type name values

abbrev pub shortest_row : Option Row → List Value → List ℕ
shortest_row None values = []
shortest_row (Some r) values = shortest_fields r.fields values

-- a frame, the last of its payload or not
unfoldable pub shortest_frame : Bool → Meaning → List ℕ
shortest_frame last frame = let t = written_type last frame.name frame.values
    in shortest_varint t ++ shortest_row (row_of t) frame.values

abbrev pub written_offset : ℕ → List ℕ
written_offset offset = if offset == 0 then [] else shortest_varint offset

-- the bytes of a STREAM before its data: its type, its id, its offset if that isn't 0, and the length of the data if it
-- is written
abbrev pub stream_header : ℕ → ℕ → Bool → Option ℕ → List ℕ
stream_header id offset fin None = shortest_varint (named_type Stream (flag fin ∷ Number id ∷ Number offset ∷ []))
    ++ (shortest_varint id ++ written_offset offset)
stream_header id offset fin (Some n) = shortest_varint
    (named_type Stream (flag fin ∷ Number id ∷ Number offset ∷ []) + 2)
    ++ (shortest_varint id ++ (written_offset offset ++ shortest_varint n))

-- ---- closes that are cut to their room

-- the least room that a close needs: its type, two bytes or the code's, the type of the frame, and the length of the
-- whole reason
abbrev pub least_room : Close → ℕ
least_room (closes.Connection c) = 1 + max 2 (size c.error_code) + size (type_or_zero c.frame_type) + size
    (length c.reason.now)
least_room (closes.Application c) = 1 + max 2 (size c.error_code) + size (length c.reason.now)

-- a close whose reason is cut to its first n bytes
abbrev pub cut_close : ℕ → Close → Meaning
cut_close n (closes.Connection c) = connection_close c.error_code c.frame_type (take n c.reason.now)
cut_close n (closes.Application c) = application_close c.error_code (take n c.reason.now)

abbrev pub close_reason : Close → List ℕ
close_reason (closes.Connection c) = c.reason.now
close_reason (closes.Application c) = c.reason.now

-- a close in that much room
abbrev pub close_in : ℕ → Close → Meaning
close_in room c = cut_close (room - least_room c) c
