pub mod Opening
pub mod Pairs
pub mod Sealing
