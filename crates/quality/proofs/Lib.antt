-- The laws of one triangle's quality: `Distinct`, a triangle whose quality is kept has three points that differ; `Lesser`, the least of two qualities; `Quick`, why the quick test is right;
-- `Order`, orders of positive values, with the root's; `Numbers`, the numbers that the code writes.
pub mod Numbers
pub mod Order
pub mod Quick
pub mod Distinct
pub mod Lesser
