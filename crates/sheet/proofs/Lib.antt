-- The laws of the text: `Decimal`, `Fields`, `Words`, `Integers`, `Lines` and `Points` say that what is written is told apart, `Whole` puts the parts of a sheet together, and `Texts` has what follows for whole sheets.
-- `FieldTexts` has the fields of what is written, and `Contents` shows that what is computed of a text is what it says; `Editions` and `Finding` are about what the public function finds, `Stores` and `Signs` about lists and signed numbers, `Tests` about what tests mean.
-- `Quotients` has the floats of coordinates, `InUnit` a sheet in another unit as it is computed, `Conversion` the laws of conversion, and `Example` the document's example.
pub mod Decimal
pub mod Fields
pub mod Words
pub mod Integers
pub mod Lines
pub mod Stores
pub mod Points
pub mod Signs
pub mod Whole
pub mod Texts
pub mod Tests
pub mod FieldTexts
pub mod Contents
pub mod Editions
pub mod Finding
pub mod Quotients
pub mod InUnit
pub mod Conversion
pub mod Example
