-- The contracts: `Side` (the twins and the sorted sides, and what each stage is handed and leaves), `Order` (rising order), `Write`, `Whole` (Handed, Placed, Listed), `Valence` (Valued).
pub mod Side
pub mod Write
pub mod Order
pub mod Whole
pub mod Valence
