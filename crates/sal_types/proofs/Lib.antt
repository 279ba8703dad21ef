pub mod Prefixes
pub mod Readers
pub mod Trees
pub mod Lists
pub mod TrueParts
pub mod Handy
pub mod Separated
