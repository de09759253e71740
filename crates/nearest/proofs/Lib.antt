-- `Laws` proves the laws of `specs/Laws`. What leads there: `Best` (the best of the corners below n), `Use` (corners in use) and `Places` (two words each, one after the other).
-- `Exact` (distances in f64), `Turns` (a corner more), `Measured` (an answered call put together) and `Questions` (those of a call, and the whole) serve the proofs of the functions. `Examples` has answers by computation.
pub mod Best
pub mod Use
pub mod Places
pub mod Exact
pub mod Turns
pub mod Measured
pub mod Questions
pub mod Laws
pub mod Examples
