-- What the functions hand to one another; only the proofs read it. `Whole` has the contracts of the public functions, `Trace` those of the private ones.
pub mod Trace
pub mod Whole
