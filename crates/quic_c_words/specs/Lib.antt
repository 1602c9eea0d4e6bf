pub mod Slots
pub mod Shown
pub mod Gaps
