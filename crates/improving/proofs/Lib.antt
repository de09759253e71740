-- What the needs ask, over plain lists: `Dropping` for the collapses, `Numbering` for the renumbering, `Parts` puts the parts of a round together; `Running` for the rounds one after another, `Call` for the whole call; `Demand3` proves the last sentence of demand 3.
pub mod Dropping
pub mod Numbering
pub mod Parts
pub mod Running
pub mod Call
pub mod Demand3
