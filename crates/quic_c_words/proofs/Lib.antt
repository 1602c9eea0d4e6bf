pub mod Shown
mod Unset
pub mod FirstRange
