pub mod Places
pub mod Covers
pub mod Early
pub mod Firsts
pub mod Held
