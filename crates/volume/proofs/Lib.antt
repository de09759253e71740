-- `Volume` proves the laws of `specs/Volume`, and `Examples` applies them to a surface. What leads there:
-- `Symbols` (points as expressions), `Sides`, `Origin` and `Listing` for the exact volume; `Wedge`, `Turn` and `Reported` for the reported one (a determinant, its share of the sum, the sum);
-- `Lifted` and `Words` for `exact`: a share as an unsigned number, and the two words; `Accepted` and `Size` for those who call it: what it may be handed, and how large its answer is.
pub mod Symbols
pub mod Sides
pub mod Origin
pub mod Listing
pub mod Wedge
pub mod Turn
pub mod Accepted
pub mod Reported
pub mod Lifted
pub mod Words
pub mod Size
pub mod Volume
pub mod Examples
