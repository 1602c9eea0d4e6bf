pub mod Rows
pub mod Fields
pub mod Values
