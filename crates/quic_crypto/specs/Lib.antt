pub mod Keys
pub mod Masks
pub mod PacketNumbers
pub mod Toy
pub mod ToyLaws
