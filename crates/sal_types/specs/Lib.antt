pub mod Order
pub mod Prefix
pub mod Reading
pub mod Tree
pub mod formers
pub mod Counts
