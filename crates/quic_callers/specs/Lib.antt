pub mod Acked
pub mod Data
pub mod Reset
pub mod Reported
