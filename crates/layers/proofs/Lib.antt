-- `Plane` has the plane in f64, `Questions` the questions in turn, `Traced` the stages put together, `Laws` what holds of a call that is answered.
pub mod Plane
pub mod Questions
pub mod Traced
pub mod Laws
