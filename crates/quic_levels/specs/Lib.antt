pub mod Levels
pub mod Protection
pub mod Opening
pub mod Receiving
