pub mod Borrowed
pub mod Domains
