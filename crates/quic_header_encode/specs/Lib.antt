pub mod Kinds
pub mod Types
pub mod Writing
