-- To cite: `Ring` and `Size`, laws that `lib.IntN` does not have; `identity` of `Polynomial`, which shows an identity of integers by `refl`.
pub mod Ring
pub mod Size
pub mod Polynomial
