pub mod Add
pub mod AddLaws
pub mod Lines
pub mod Mask
pub mod MaskLaws
pub mod Outgoing
pub mod Parsers
pub mod Plain
