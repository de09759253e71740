-- `Place`: the definitions that speak of half-edges, by their places in the corner list. `Free`: how a contract names words that it leaves free.
pub mod Place
pub mod Free
