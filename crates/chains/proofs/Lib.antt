-- The laws of chains and marks: `Chain`, `Flat`, `Hinges` and `Common` of the definitions, `Bits` of tests as numbers, the others of the loops of `marks`.
pub mod Chain
pub mod Bits
pub mod Flat
pub mod Hinges
pub mod Common
pub mod Marks
pub mod Clear
pub mod SideMarks
pub mod AcrossMarks
pub mod LabelMarks
