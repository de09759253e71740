-- The laws of the definitions of the same names (`Covering` of `Cover`, `Touching` of `Touch`, `Prepared` of `Ready`); `Turns` has what the needs ask, over plain lists.
pub mod Trials
pub mod Covering
pub mod Touching
pub mod Stand
pub mod Decide
pub mod Prepared
pub mod Turns
