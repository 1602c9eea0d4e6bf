pub use Rattle.quic_base.specs.Varint
pub use Rattle.quic_base.specs.Codec
pub mod Types
pub mod Names
pub mod Codes
