-- The data that frames carry.
use Rattle.std.specs.Prelude.{ℕ, List, length, Option, Some, None}
use Rattle.std.specs.List.{sum_by}
use Rattle.quic_frame_fields.specs.Field.{Value}
use Rattle.quic_frame_fields.specs.Payload.{TypedFrame}
use Rattle.quic_frame_fields.specs.Table.{Name, Stream}
use Rattle.quic_frames.specs.Walk.{last_bytes}

abbrev pub bytes_len : Option (List ℕ) → ℕ
bytes_len None = 0
bytes_len (Some bytes) = length bytes

-- how many bytes of data end a frame of this name, if that is STREAM
abbrev pub data_len : Name → List Value → ℕ
data_len Stream values = bytes_len (last_bytes None values)
data_len name values = 0

abbrev pub stream_len : TypedFrame → ℕ
stream_len found = data_len found.frame.name found.frame.values

-- how many bytes of data the STREAMs among these frames carry
abbrev pub streams_len : List TypedFrame → ℕ
streams_len found = sum_by stream_len found
