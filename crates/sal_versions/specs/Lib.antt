pub mod Loads
pub mod Schemas
pub mod Shared
pub mod Versions
