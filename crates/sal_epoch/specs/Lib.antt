pub mod Epochs
pub mod Mounts
