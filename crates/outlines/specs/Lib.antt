-- Layer outlines (document 02, F-9): the loops in which a plane that meets no corner crosses a closed surface. `Side` has sides and lists of them, `Crossing` what the plane crosses and how one goes on from a crossed side,
-- `Outline` the list of loops as a function, `Request` the sentences of the request as one record, `Laws` what is proved. `Stages` has the contracts of the functions.
pub mod Side
pub mod Crossing
pub mod Outline
pub mod Request
pub mod Laws
pub mod Stages
