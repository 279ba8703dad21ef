pub mod Nexts
pub mod Walked
