-- `Listed`, the law on the list of crossed edges; `Crossing`, its test; `Indices`, `Stores`, `Choices`, `Noting`, turns of the loops and what tests pick; `Call`, the call put together; `Answers`, which calls are answered with 0.
pub mod Crossing
pub mod Listed
pub mod Indices
pub mod Stores
pub mod Noting
pub mod Choices
pub mod Call
pub mod Answers
