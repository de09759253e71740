-- Improving: `Improve` says what every call answers and leaves, `Demand3` what that comes to of every call that is let in; `Rounded` what a round and several leave in the lists that are lent, `Stages` what the parts of a round leave. What a round is, ours and the original's, is `oracle/specs` (its parts: `rounds/specs`), the Rust's `improve` line by line `original/specs`, the field sheet and the shape `field/specs`.
pub mod Rounded
pub mod Stages
pub mod Improve
pub mod Demand3
