-- `improve` of the Rust is our rounds: `Domain` (improve-is, begins-domain). What leads there can be cited too: `Rounds` (dropped-is, numbered-is, flipped-is, round-is), `Pass` (collapse-pass), `Candidates` (candidates-are), `FlipLoop` (flip-loop). The rest, in turn:
-- `Sets`, `Maps`, `Masks`, `Spots`, `Keys`, `Rising` on what the maps hold; `Opposite`, `Tries`, `Applied`, `Collapse` on a candidate; `Lengths` on the candidates' order; `Degrees`, `Flips` on a side of the flip loop; `Improve` and `Admitted` (admitted-valid) on what `smooth_impl` takes, `Pieces` on pieces of four corners, `Judged` on round after round. `Examples` computes.
pub mod Sets
pub mod Maps
pub mod Masks
pub mod Spots
pub mod Keys
pub mod Rising
pub mod Opposite
pub mod Tries
pub mod Applied
pub mod Collapse
pub mod Pass
pub mod Lengths
pub mod Candidates
pub mod Degrees
pub mod Flips
pub mod FlipLoop
pub mod Rounds
pub mod Improve
pub mod Pieces
pub mod Judged
pub mod Domain
pub mod Admitted
pub mod Examples
