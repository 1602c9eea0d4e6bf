mod Checking
mod Changing
mod Writing
