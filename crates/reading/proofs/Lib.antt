-- `Placing` has the loops that place and copy, `Giving` what `read` gives by what was found.
pub mod Placing
pub mod Giving
