pub mod Kinds
pub mod Spans
pub mod Walk
pub mod Inside
pub mod After
pub mod Headers
pub mod Fault
