-- What the contracts and theorems about surfaces cite. `Triangle` and `Flat` have triangles and the lists that hold them, `Renumber` other numbers for their corners, `Closed` the rules (a) to (d), `Check` a test of them that computes,
-- `Finding` what the judgement of (b) and (c) finds and where, `Edit` the flip and the collapse, `Label` the labels of corners, `Euler` the number that edits keep.
-- `Laws` states what is proved of edits, `PageTwelve` what is proved of the order of the list, and `Original` is the Rust's own test of (b) and (c), with its tables in `Links`.
pub mod Triangle
pub mod Flat
pub mod Renumber
pub mod Closed
pub mod Check
pub mod PageTwelve
pub mod Finding
pub mod Edit
pub mod Label
pub mod Euler
pub mod Laws
pub mod Links
pub mod Original
