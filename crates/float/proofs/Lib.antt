-- The laws that the proofs of `float` share. `Nearest` shows that `root` is the square root of IEEE 754, and `Controls` computes it at closed cases.
-- `Digit` is one digit of a root, `Isqrt` has roots of whole numbers, `DigitLaw` the law for any number of digits, `Between` the midpoints beside a root, `Test` the test of a guess, `Pack` the bits of a result, `Read` the root by an operand's bits, `Cases` the tests of floats. To cite: `Below`, the order of floats.
pub mod Digit
pub mod Isqrt
pub mod DigitLaw
pub mod Between
pub mod Test
pub mod Pack
pub mod Read
pub mod Cases
pub mod Nearest
pub mod Controls
pub mod Below
