pub mod Constants
pub mod Nonce
pub mod Retry
