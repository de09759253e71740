-- `PageTwelve`: the judgement's answer is independent of the order, and is the original's. `Numbers` and `Whole` are for the functions' proofs, `Hits`, `Stamping` and `Locating` for those that find the place.
pub mod Numbers
pub mod Whole
pub mod Hits
pub mod Stamping
pub mod Locating
pub mod PageTwelve
