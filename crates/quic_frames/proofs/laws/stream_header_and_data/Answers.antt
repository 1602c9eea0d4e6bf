use Rattle.quic_frame_fields.proofs.StreamParts.{stream_parts}
use Rattle.quic_frames.proofs.laws.stream_header_and_data.Goals as goal

pub returns : goal.returns
returns c = λ last s. stream_parts last s.fin s.id s.offset s.bytes.now
