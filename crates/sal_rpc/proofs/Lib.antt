pub mod Answered
pub mod First
pub mod Kept
pub mod Requested
pub mod Sending
pub mod Services
pub mod Waiting
