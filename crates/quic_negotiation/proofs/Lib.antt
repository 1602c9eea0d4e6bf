pub mod Fronts
mod Made
