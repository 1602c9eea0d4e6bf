mod Walks
mod Sums
mod Reread
mod Again
mod Counts
mod HeadersBack
mod Lowest
mod LongTypes
