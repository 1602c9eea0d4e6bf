pub mod Sets
pub mod Acks
