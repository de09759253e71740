-- `Turning` has coordinates that are turned one after the other, `Converting` what `convert` leaves by what was found, `Units` which sheets both units have, and `Laws` what is proved of conversions.
pub mod Turning
pub mod Converting
pub mod Units
pub mod Laws
