-- Layer outlines of a surface at a height (document 02, F-9). `Layer` has the plane and what it crosses, `Call` the answer of every call, `Laws` what is proved. `Stages` has the contracts of the private functions.
pub mod Layer
pub mod Call
pub mod Laws
pub mod Stages
