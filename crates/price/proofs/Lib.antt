-- `Laws` proves the laws of `specs/Laws`; `Examples` has prices by computation. What leads there: `Steps` (the sum over the steps), `Size` (how many unit cubes a surface starts at most), `Rules` (the rules of a price sheet), `Answers` (the cases of a call);
-- `Walk` (the turns of the loop over the steps) serves the proofs of the functions.
pub mod Steps
pub mod Size
pub mod Rules
pub mod Answers
pub mod Laws
pub mod Walk
pub mod Examples
