pub mod Differences
pub mod FirstLines
