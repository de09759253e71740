-- A round of the improver on values, the original's and ours: `Number` has the literals by name, `Scene` the points with a field sheet and what is measured of them, `Rising` the sides in rising order, `Candidates` the sides that a round tries to collapse, `Slivers` the collapse pass, `Points` the points after the renumbering, `Gains` what the flip pass decides by, `Round` a round and rounds. `Safe` says what is proved of every round, `Spared` where ours and the original's are one.
pub mod Number
pub mod Scene
pub mod Rising
pub mod Candidates
pub mod Slivers
pub mod Points
pub mod Gains
pub mod Round
pub mod Safe
pub mod Spared
