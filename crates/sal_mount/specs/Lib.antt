pub mod Answers
pub mod Examples
pub mod Mounts
pub mod Register
