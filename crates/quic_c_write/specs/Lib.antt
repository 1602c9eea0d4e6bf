pub mod AckGaps
pub mod Written
pub mod Shapes
pub mod Headers
pub mod Faults
pub mod Plain
