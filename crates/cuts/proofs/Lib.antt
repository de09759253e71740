-- The laws that the proofs of `cuts` share. `Cutting`: one edge. `Listing`: a list of edges, a turn an edge. `Answering`: a call put together from its parts. `Passing`: which calls are answered with 0, and which with 37. `Ending`: how each listed edge ends (`cuts-laws`).
pub mod Cutting
pub mod Listing
pub mod Answering
pub mod Passing
pub mod Ending
