-- The powder tariff (document 02, F-14). `Price` is the price of a volume, over whole numbers; `Tariff` the rules of a price sheet; `Quote` the answer of every call; `Laws` states what is proved of all of them.
-- `Stages` is between the functions of this crate.
pub mod Price
pub mod Tariff
pub mod Quote
pub mod Laws
pub mod Stages
