-- The laws of histories. `Safe` has demand 3, `Undo` taking back, `Local` the verdict by local tests; `Verdict`, `Labels`, `Run` and `Walk` lead there;
-- `Entry` serves the functions that do entries.
pub mod Verdict
pub mod Labels
pub mod Run
pub mod Walk
pub mod Undo
pub mod Local
pub mod Safe
pub mod Entry
