mod Carried
mod Ends
mod Masks
mod OneLine
mod RowOfOne
