-- The laws of the questions: `Laws` has the theorem, that all are answered by "yes" exactly where the surface is `Admitted`; `Rules` says the same of the tests of the rules; `Telling`, that the number is 0 only there; `Relisting`, that the order of the triangles does not matter.
-- The others lead there and serve the proofs of the functions: `Every`, a test of every element by an iterator; `Counted`, questions 1 to 4; `Labels` and `Marks`, question 11; `Chain`, the further questions.
pub mod Every
pub mod Counted
pub mod Rules
pub mod Labels
pub mod Marks
pub mod Chain
pub mod Laws
pub mod Telling
pub mod Relisting
