pub mod Keys
pub mod Whole
