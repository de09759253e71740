-- `improve` of triangles.rs, written down line by line, to be read beside the Rust. `Sets` has BTreeSet; `Maps` what is gathered in the first loops over the faces; `Sorted` the candidates of `collapse_slivers` and their order, `Collapse` its loop over them; `Flip` the flip loop of `improve`; `Round` one round and `Improve` the whole. `Domain` is document 01's domain in terms of these.
-- What the Rust gathers when a pass begins is a function of the lists with which it began; what it reads from `mesh.faces` later on is read from the present list. A loop is a recursion over what is left of it, `continue` and `break` are its cases, and `Err` is an outcome.
-- Floats are IEEE 754's (crate float), `shape` and the field sheet are those of crate field. Not modelled are: the widths of usize and i32, panics (an index past the end of a list, an overflow), `band.validate` and `band.field.check` (the caller's field is judged by question 13, and nothing in `improve` changes it), the text of an `Err`, and what the mesh holds after one.
pub mod Sets
pub mod Maps
pub mod Collapse
pub mod Sorted
pub mod Flip
pub mod Round
pub mod Improve
pub mod Domain
