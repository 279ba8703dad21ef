pub mod Floats
pub mod Plain
pub mod TreeTexts
pub mod NameOrder
pub mod TreeRows
pub mod Values
pub mod Tallying
