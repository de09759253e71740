-- The laws that the proofs of `solve` share. `Turns`: which case of a definition the tests of the code pick. `Signs`: the sign of a difference, so that a listed edge is bracketed.
-- `Residuals`: what misses the limit is not zero. `Zeros`: a difference is zero only between equal values. `Inside`: a parameter lies between the ends of its bracket. `Ends`: how a search ends.
-- `Edge`: how an edge ends, and its count (`solve-laws`). `Controls` computes the definitions at closed cases.
pub mod Turns
pub mod Signs
pub mod Residuals
pub mod Zeros
pub mod Inside
pub mod Ends
pub mod Edge
pub mod Controls
