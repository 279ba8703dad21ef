pub mod Examples
pub mod Laws
pub mod Named
pub mod Numerals
pub mod Patterns
pub mod Read
pub mod Wholes
pub mod Written
