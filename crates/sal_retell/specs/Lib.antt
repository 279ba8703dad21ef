pub mod Light
pub mod Told
