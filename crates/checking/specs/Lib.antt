-- The definitions that the contracts of `checking` cite: `Verdict`, document 01's number and values of an answer; `Validate`, the answer of every call. `Original` is the Rust's `validate`, and which of its answers goes with which of ours.
pub mod Verdict
pub mod Validate
pub mod Stages
pub mod Original
