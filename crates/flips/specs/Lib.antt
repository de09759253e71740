-- What the flip pass reads of the work words for a side, what it decides by that, and what a flip writes (`Quads`); the areas of the work words, the stages and the contract of the pass (`Whole`).
pub mod Quads
pub mod Whole
