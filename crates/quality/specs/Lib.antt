-- The definitions that the contracts of `quality` cite: `Quality` measures one triangle by the points of its corners, and `Quick` says what a quick test of one shows.
pub mod Quality
pub mod Quick
