pub mod Runs
pub mod Numbers
pub mod Intersections
pub mod Places
pub mod Splices
pub mod Replaced
