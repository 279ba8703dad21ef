pub mod Exports
pub mod Follows
pub mod Taken
