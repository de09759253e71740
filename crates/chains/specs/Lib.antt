-- `Chain`: the places of a corner in rising order, and walks along them. `Flat`: a side by its place. `Common`: the common neighbours of a side's ends. `Marks`, `Clear`, `SideMarks`, `AcrossMarks`, `LabelMarks`: what the functions of `marks` are handed and leave.
pub mod Chain
pub mod Flat
pub mod Common
pub mod Marks
pub mod Clear
pub mod SideMarks
pub mod AcrossMarks
pub mod LabelMarks
