pub mod Moved
pub mod Marks
pub mod Undoes
pub mod After
