-- `Laws` has the laws of the printed check, and `Examples` document 01's and others. The others serve the proofs of the functions, too: `Digits` has hexadecimal digits, `Verdicts` the verdicts, `Reading` the sheets that were read, and `Texts` the text in its parts.
pub mod Digits
pub mod Verdicts
pub mod Reading
pub mod Texts
pub mod Laws
pub mod Examples
