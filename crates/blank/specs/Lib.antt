-- What is left of a list whose end is set to 0: `Blank`.
pub mod Blank
