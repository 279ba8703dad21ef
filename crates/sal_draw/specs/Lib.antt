pub mod Acts
pub mod Looks
