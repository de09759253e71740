-- The text sheet of a triangle surface. `Text` says how numbers, fields and lines are written, `Edition` what the two editions are, `Sheet` what a sheet is and its text, `Contents` what a text says, `Conversion` what a sheet is in the unit of another edition, and `Refusals` why a call gives none. `Laws` is what is proved of all this, and `Stages` what the functions of `src/` find.
pub mod Text
pub mod Edition
pub mod Sheet
pub mod Contents
pub mod Conversion
pub mod Refusals
pub mod Laws
pub mod Stages
