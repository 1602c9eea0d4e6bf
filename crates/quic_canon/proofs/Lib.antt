mod SameSets
mod SameFrames
pub mod LeastPayloads
mod Spans
pub mod Cuts
pub mod Steps
mod FrontWalk
pub mod PaddingWalk
mod RewriteWalk
mod Fronts
mod Clients
mod WrittenFrames
pub mod ByRules
