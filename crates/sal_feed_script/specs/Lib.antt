pub mod Feeding
pub mod Halves
