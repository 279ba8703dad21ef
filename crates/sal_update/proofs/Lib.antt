pub mod Onward
pub mod Turns
