pub mod Nearby
pub mod StateData
