-- `Closing` is what a caller relies on; `Stages` and `Locating` are between the functions of this crate.
pub mod Closing
pub mod Stages
pub mod Locating
