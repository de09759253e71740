-- `Counts`: a count of what stands at a list's start.
pub mod Counts
