-- `Survey`: what shapes are measured on. `Trials`: what a collapse makes of the triangles that lose a corner. `Cover`: the labels of two corners by their marks. `Touch`: touched corners. `Stand`: the state of the pass in the words. `Decide`: what is decided of a candidate. `Ready`: what the functions are handed and leave.
pub mod Survey
pub mod Trials
pub mod Cover
pub mod Touch
pub mod Stand
pub mod Decide
pub mod Ready
