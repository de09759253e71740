-- The laws of `checking`: `Laws` says what an accepted surface has, `Original` that the Rust's `validate` says the same, `Relisting` what the order of the triangles does not affect; `Sound` and `Turns` lead there, and with `Cases` serve the proofs of the functions.
pub mod Turns
pub mod Sound
pub mod Cases
pub mod Laws
pub mod Original
pub mod Relisting
