pub mod Lateness
pub mod Leaving
pub mod Tokens
pub mod Sendable
