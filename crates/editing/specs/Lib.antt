pub mod Entry
pub mod Held
pub mod Run
pub mod Edit
pub mod Demand3
