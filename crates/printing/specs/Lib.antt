-- The printed check: `Printed` has the whole text that is printed of every input, and `Laws` what is proved of it.
pub mod Printed
pub mod Laws
