-- `Steps`: what the calls of the functions without loops come to. `Decision`: what is decided by the work words is what the definition decides. `Pass`: a flip keeps the words and the definition's state alike. `Turns`: a turn of each loop. `Stages`: the stages put together.
pub mod Steps
pub mod Decision
pub mod Pass
pub mod Turns
pub mod Stages
