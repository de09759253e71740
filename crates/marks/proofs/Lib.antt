-- The turns of the loops, over plain lists.
pub mod Turns
