-- What the needs ask, over plain lists: `Lists` for the marks of the list, `Choosing` for the candidates; `Whole` puts the stages of the pass together.
pub mod Lists
pub mod Choosing
pub mod Whole
