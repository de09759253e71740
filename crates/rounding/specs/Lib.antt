-- `Fraction`: values as fractions of whole numbers, and how near they are to others. `Laws` states what each operation of a format does with them.
pub mod Fraction
pub mod Laws
