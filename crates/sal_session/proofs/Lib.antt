mod Kept
mod Led
pub mod Sendable
