pub use Rattle.quic_frame_fields.specs.Table
pub use Rattle.quic_frames.specs.Meaning
pub use Rattle.quic_frames.specs.Rules
pub mod Permitted
