-- `Words`: floats in two work words. `Turns`: what the functions' calls come to, and a turn of each loop. `Rises`: the sides in rising order by their places. `Weak`: which sides have a weak triangle. `Numbered`: lists that are chosen from and sorted by numbers. To cite: `Candidates` (limit-is, tests-are, candidates-are), that the numbers which the functions leave are those of the candidates.
pub mod Words
pub mod Turns
pub mod Rises
pub mod Weak
pub mod Numbered
pub mod Candidates
