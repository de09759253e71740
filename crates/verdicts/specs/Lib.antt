pub mod Found
pub mod Notes
pub mod Survey
pub mod Verdict
pub mod Record
