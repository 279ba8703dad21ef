pub mod Children
pub mod Floats
pub mod Lists
pub mod Replayed
