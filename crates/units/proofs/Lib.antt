-- `Coordinate`: a value passes the tests of `on_unit` if and only if it is on whole units. `Tests`: so it does those of the definition that computes. `Laws` proves `specs/Laws`: the conversion is exact. `Points`: so are points, and their differences.
pub mod Coordinate
pub mod Tests
pub mod Laws
pub mod Points
