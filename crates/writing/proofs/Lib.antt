-- `Puts` has the laws of writing one part after another, `Parts` those of a sheet's parts, `Sizes` the signed numbers, `Threes` the lists in threes, `Settling` what comes of a text, `Verdicts` what `write` asks of the lists, and `Laws` what follows for reading and writing.
pub mod Puts
pub mod Parts
pub mod Sizes
pub mod Threes
pub mod Settling
pub mod Verdicts
pub mod Laws
