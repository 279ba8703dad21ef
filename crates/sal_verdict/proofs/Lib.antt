pub mod Judging
pub mod Own
