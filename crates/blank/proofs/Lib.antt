-- A turn of each loop, over plain lists.
pub mod Blanking
