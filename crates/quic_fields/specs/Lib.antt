pub mod Kinds
pub mod Spans
pub mod Inside
pub mod Walk
pub mod Entry
pub mod Stopping
pub mod Rules
