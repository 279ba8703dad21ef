pub mod Words
pub mod Quoted
pub mod Text
pub mod Spelling
pub mod Examples
