mod Distinct
pub mod FrameFailures
