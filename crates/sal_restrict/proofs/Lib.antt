pub mod Places
pub mod Digits
pub mod Parts
pub mod Splits
pub mod Numbers
