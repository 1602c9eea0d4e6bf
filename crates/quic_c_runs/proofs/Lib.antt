mod Moving
mod Changing
