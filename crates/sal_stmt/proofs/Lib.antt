pub mod Words
pub mod Separators
pub mod Quotes
pub mod Strings
pub mod Statements
pub mod Spelled
pub mod Readable
