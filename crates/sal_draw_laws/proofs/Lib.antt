pub mod Clashes
pub mod Points
