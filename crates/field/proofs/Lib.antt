-- The laws that the proofs of `field` share: `Sums`, the cases of powers, sums and normals; `Place`, where a bound lies; `Checks`, the other conditions on a sheet; `Factor`, a number that is computed once.
-- `Controls` computes the definitions at closed cases.
pub mod Sums
pub mod Place
pub mod Checks
pub mod Controls
pub mod Factor
