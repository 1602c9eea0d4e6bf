-- The definitions of the crates below that the laws and the calls name, for callers that list only this crate.
pub use Rattle.quic_base.specs.Number
pub use Rattle.quic_base.specs.One
pub use Rattle.quic_base.specs.Varint
pub use Rattle.quic_frame_fields.specs.Field
pub use Rattle.quic_frame_fields.specs.Table
pub use Rattle.quic_frame_fields.specs.Payload
pub use Rattle.quic_frames.specs.InRange
pub use Rattle.quic_frames.specs.IterState
pub use Rattle.quic_frames.specs.Walk
pub use Rattle.quic_frames.specs.Meaning as FrameMeaning
pub use Rattle.quic_frames.specs.Rules
pub use Rattle.quic_frames.specs.Written
pub use Rattle.quic_header_encode.specs.Writing as HeaderWriting
pub use Rattle.quic_header_decode.specs.Datagram
pub use Rattle.quic_header_decode.specs.Grammar
pub use Rattle.quic_header_decode.specs.Headers
pub use Rattle.quic_header_decode.specs.Reading as HeaderReading
pub use Rattle.quic_header_decode.specs.Refusal
pub use Rattle.quic_header_decode.specs.Rfc as PacketRfc
pub use Rattle.quic_levels.specs.Levels
pub use Rattle.quic_levels.specs.Opening as LevelOpening
pub use Rattle.quic_levels.specs.Protection
pub use Rattle.quic_levels.specs.Receiving
pub use Rattle.quic_packets.specs.Opening
pub use Rattle.quic_packets.specs.Pairs
pub use Rattle.quic_packets.specs.Sealing
pub use Rattle.quic_params.specs.Entry
pub use Rattle.quic_params.specs.Meaning as ListMeaning
pub use Rattle.quic_params.specs.Order
pub use Rattle.quic_params.specs.Range
pub use Rattle.quic_params.specs.Writing as ListWriting
pub use Rattle.quic_canon.specs.Least
pub use Rattle.quic_canon.specs.Same
pub mod Plain
pub mod Reading
pub mod Rfc
