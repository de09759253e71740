-- The lemmas that the proofs of the functions cite.
pub mod Journal
pub mod Held
pub mod Returned
pub mod Entered
pub mod Running
pub mod Call
pub mod Demand3
