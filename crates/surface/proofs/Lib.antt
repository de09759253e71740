-- The theorems, in the terms of the definitions: `Laws` (the laws of flips and collapses), `PageTwelve` (the order of the list), `Relisting` (the order of the lists that calls are lent), `Decision` (the test decides), `Findings` (there is one finding, and it is computed), `Valence` (rule (d) by counting),
-- `Original` (the Rust's test answers likewise; `Links`: what its tables hold), `FlipRings`, `CollapseRings` and `Counts` (what the edits do to the rings), `Labels`, `Formula` (Euler's number); and `Examples`, small surfaces by computation.
-- `Flat` and `Held` have the lists of corner numbers, `All` tests of every element of a list. The others lead there: `Surface` is closedness without any order, and `Bridge` goes from the one to the other.
pub mod Bools
pub mod All
pub mod Reading
pub mod Rings
pub mod Steps
pub mod Surface
pub mod FlipCore
pub mod Rename
pub mod CollapseCore
pub mod Places
pub mod Hinged
pub mod Edits
pub mod Around
pub mod Bridge
pub mod Valence
pub mod Euler
pub mod Sums
pub mod Formula
pub mod FlipRings
pub mod CollapseRings
pub mod Counts
pub mod Flat
pub mod Held
pub mod Decision
pub mod Labels
pub mod PageTwelve
pub mod Relisting
pub mod Findings
pub mod Laws
pub mod Pairs
pub mod Links
pub mod Original
pub mod Examples
