-- Reading a sheet's points as floats: `Given` says what a call gives, and `Stages` what the functions of `src/` hand to one another. What is proved of reading stands in the laws of `writing` and `converting`.
pub mod Given
pub mod Stages
