pub mod Placing
mod Planning
pub mod Making
mod RangeParts
mod Touching
