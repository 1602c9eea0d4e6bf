mod Numbers
mod Encodings
mod Codecs
mod Readings
mod Words
mod Sizes
mod LongIds
mod IdMemory
mod Ends
pub mod PublicLaws
pub mod Encoders
pub mod Storing
