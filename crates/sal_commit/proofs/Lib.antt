pub mod Begun
pub mod Following
pub mod Applying
pub mod Decided
pub mod Sounds
pub mod VersionTables
