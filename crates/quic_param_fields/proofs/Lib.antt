mod Once
mod Accepted
mod Addresses
mod Reading
mod Values
mod Faults
