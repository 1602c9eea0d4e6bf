pub mod AtLevels
pub mod HeaderLevels
pub mod LevelBack
pub mod Protections
pub mod Runs
