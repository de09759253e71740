-- `Laws` proves `specs/Laws`. What leads there: `Quantum`, values in units of the smallest; `Rounded`, each operation rounds once; `Exactness`, where that changes nothing; `Near`, how far it is off. To cite besides: `Bounded`, exact results by bounds on the operands; `Compared`, comparisons by fractions; `Cast`, whole numbers as unsigned integers.
pub mod Quantum
pub mod Compared
pub mod Rounded
pub mod Exactness
pub mod Bounded
pub mod Cast
pub mod Near
pub mod Laws
