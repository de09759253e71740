-- The definitions that the contracts of `lattice` cite: `Node`, the nodes; `Values`, the field there, set onto the levels; `Edges`, the crossed edges and their list; `Sample`, the answer of every call and its lists; `Laws`, what is shown of them. `Stages` is what the functions hand to one another.
pub mod Node
pub mod Values
pub mod Edges
pub mod Sample
pub mod Laws
pub mod Stages
