-- The exact volume of a surface on whole units, and the reported one (document 02, F-6). `Six` is six times the volume over whole points, `Error` how near the reported volume is to the exact one, `Volume` states what is proved of both,
-- `Exact` is what `exact` answers; `Stages` is between the functions of this crate.
pub mod Six
pub mod Error
pub mod Volume
pub mod Exact
pub mod Stages
