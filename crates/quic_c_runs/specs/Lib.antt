pub mod Sets
pub mod Moves
