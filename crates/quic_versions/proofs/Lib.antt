pub mod Lists
pub mod Stored
