-- Converting a sheet to the unit of an edition: `Converting` says what comes of it, `Laws` what is proved of it, and `Stages` what the functions of `src/` hand to one another.
pub mod Converting
pub mod Laws
pub mod Stages
