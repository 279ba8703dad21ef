pub mod Bytes
pub mod Contents
pub mod Given
pub mod Lexed
pub mod Named
pub mod Parsed
pub mod Parts
pub mod Tested
