-- `Digits`: digits, words and the numbers that two words are. `Lists`: a turn of each loop over a list.
pub mod Digits
pub mod Lists
