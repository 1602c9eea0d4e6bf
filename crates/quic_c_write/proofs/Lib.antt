mod Shapes
mod Meanings
mod AnyData
mod PlainFrames
mod AckGaps
mod StoredAcks
mod DataHeaders
mod HeaderNumbers
mod HeaderOnce
mod HeaderBack
mod HeaderTypes
mod HeaderSteps
pub mod FirstFaults
