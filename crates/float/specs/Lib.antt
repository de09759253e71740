-- The definitions that the contracts of `float` cite. `Nearest` says what IEEE 754 asks of a square root; `Root` computes one, and `proofs/Nearest.antt` shows that it is the one asked for.
-- `Digits` has the digit recurrence of a root, `Guess` the test of a guess, `Order` minimum, maximum, clamp and finiteness, `Point` the operations on points of space.
pub mod Nearest
pub mod Root
pub mod Digits
pub mod Guess
pub mod Order
pub mod Point
