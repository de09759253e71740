-- `Words`: the words of a text, and the lists that stand in it. `Replay`: where the next vector begins.
pub mod Words
pub mod Replay
