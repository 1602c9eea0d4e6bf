pub mod Varints
pub mod Steps
pub mod Blocks
pub mod UncountedBlocks
pub mod Gaps
pub mod Apart
pub mod Numbers
pub mod Encoding
pub mod StreamParts
pub mod Encoded
pub mod Sets
pub mod AckParts
pub mod Held
pub mod Bodies
pub mod FirstRanges
pub mod AckPlaces
mod ShortBlocks
mod ShortRanges
mod WideRanges
pub mod Putting
pub mod Eights
pub mod Fields
pub mod Rows
