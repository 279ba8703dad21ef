pub mod ByPath
pub mod Prefixes
pub mod Noted
