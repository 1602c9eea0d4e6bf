pub mod Results
pub mod Faults
