-- What the exported functions promise of every call: the answer, and each lent list afterwards. `Root` is the square root's. `Check` has the Rust's `validate` beside the call, too, and `PageTwelve` what the order of the triangles does not affect; `Volume` is the call of which the laws of `volume` hold; `Price`, `Nearest` and `Outlines` have those of the laws of `price`, `nearest` and `layers`, too; `Sheets`, `Edit`, `Improve`, `Sample` and `Cut` have the laws of their calls.
pub mod Root
pub mod Check
pub mod PageTwelve
pub mod Price
pub mod Nearest
pub mod Outlines
pub mod Sheets
pub mod Edit
pub mod Improve
pub mod Volume
pub mod Sample
pub mod Cut
