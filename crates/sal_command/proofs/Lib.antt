pub mod Linting
pub mod Numerals
