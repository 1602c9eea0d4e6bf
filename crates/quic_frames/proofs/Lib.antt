mod Frames
pub mod Items
pub mod Readings
pub mod Checks
mod Later
mod Reasons
pub mod Finding
mod Placing
pub mod Places
pub mod Bodies
mod BodyParts
mod Padding
pub mod Turns
pub mod Checking
pub mod CheckedTurns
mod SizeBounds
mod LeastFields
mod LeastFrames
mod LeastPayloads
mod ReadBack
mod InRange
mod Encoding
pub mod Quick
