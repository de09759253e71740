-- Coordinates in whole units of 1/1024 within ±32,768, as document 02 has them: as integers, and the lists of f64 that stand for them. `Laws` states that the conversion is exact.
pub mod Units
pub mod Laws
