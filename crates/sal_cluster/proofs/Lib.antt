pub mod Bare
pub mod Epoching
pub mod Followed
pub mod Held
pub mod Keeping
pub mod Looking
pub mod Numbered
pub mod Sending
