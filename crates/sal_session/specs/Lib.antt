pub mod Sessions
pub mod Streams
pub mod Texts
