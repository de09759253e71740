-- What the functions of this crate are handed, and what they leave: `Dropped` the triangles that stay, `Saved` points in work words, `Numbered` the corners by first use with their points.
pub mod Dropped
pub mod Saved
pub mod Numbered
