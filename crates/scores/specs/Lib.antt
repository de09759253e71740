-- Floats in work words (`Words`), and what the functions of this crate are handed and leave (`Measures`).
pub mod Words
pub mod Measures
