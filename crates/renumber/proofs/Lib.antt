-- A turn of each loop, over plain lists; `Mesh` says what the lists come to, for the round (gone-is, dropped-result, numberable, numbered-mesh).
pub mod Dropping
pub mod Saving
pub mod Numbering
pub mod Mesh
