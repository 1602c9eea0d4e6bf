pub mod Acked
