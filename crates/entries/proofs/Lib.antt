-- The laws that the proofs of the functions cite: `Turns` words changed one at a time, `Moved` parts of lists moved forward and back, `TakenOut` two pieces taken out, `Mapped` the triangles changed one by one, `Words` their corners one by one, `Marks` the walk that is marked,
-- `Edits` the flip and the collapse on the lists, `Backs` both taken back, `Acts` what an entry came to.
pub mod Turns
pub mod Moved
pub mod TakenOut
pub mod Mapped
pub mod Words
pub mod Edits
pub mod Acts
pub mod Marks
pub mod Backs
