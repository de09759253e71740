-- The laws that the proofs of the functions cite: `Find` the search for the side, `Scan` the tests of the steps around a corner, `Notes` those steps noted in words,
-- `Cover` the labels, `Surveying` the pass that flags and notes, `Word` the verdict word from its tests, `Recorded` the words of the record.
pub mod Find
pub mod Scan
pub mod Notes
pub mod Cover
pub mod Surveying
pub mod Word
pub mod Recorded
