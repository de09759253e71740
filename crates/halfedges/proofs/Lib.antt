-- Laws of places: `Steps`, `Perms`, `Rings` and `Fine` lead from the places of a corner to its ring, `Chains` and `Turns` are about chains and notes in memory, `Whole` adds rules (a) and (d), `Free` puts stages together that leave words free.
pub mod Steps
pub mod Perms
pub mod Rings
pub mod Fine
pub mod Chains
pub mod Turns
pub mod Whole
pub mod Free
