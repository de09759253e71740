-- The definitions that the contracts of `solve` cite: `Solve`, the search for the cut of an edge, round by round; `Laws`, what is shown of it.
pub mod Solve
pub mod Laws
