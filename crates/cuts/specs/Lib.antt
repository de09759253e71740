-- The definitions that the contracts of `cuts` cite: `Edges`, an edge's cut and those of a list of edges; `Call`, the answer of every call and its lists; `Laws`, what is shown of them. `Stages` is what the functions hand to one another.
pub mod Edges
pub mod Call
pub mod Laws
pub mod Stages
