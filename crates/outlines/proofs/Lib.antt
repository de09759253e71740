-- The theorems: `Laws` (the list that `outlines` computes has all that the request says), `Unique` (and no other list has), `Few` (no more sides are crossed than there are triangles), `Closing` (every loop closes; all laws in one record), `Agreeing` (only the corners of the list matter), `Relisting` (neither the order of the triangles nor where each turn begins does), `Listing` (the program's answer is that list), `Examples`.
-- `Lists` has lists of anything, `Sides` lists of sides, `Cycles` the walk along a permutation, `Crossings` that going on permutes the crossed sides, `Joins` which neighbours a triangle joins, `Loops` the induction over the loops.
-- For the program: `Reading`, `Following` and `Tracing` have a lemma for each turn of its loops, `Stepping`, `Remaining`, `Written` and `Answer` lead from places and words to sides and loops, `Preparing` has the words before and after.
pub mod Lists
pub mod Sides
pub mod Cycles
pub mod Crossings
pub mod Joins
pub mod Loops
pub mod Laws
pub mod Reading
pub mod Following
pub mod Tracing
pub mod Stepping
pub mod Remaining
pub mod Written
pub mod Answer
pub mod Listing
pub mod Preparing
pub mod Unique
pub mod Few
pub mod Relisting
pub mod Closing
pub mod Agreeing
pub mod Examples
