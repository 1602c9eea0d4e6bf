pub mod Headers
pub mod Packets
pub mod Reading
pub mod Protection
pub mod Walks
pub mod Fields
pub mod Faults
