pub mod Ascending
pub mod Boxed
pub mod Counted
pub mod Kept
pub mod Queued
pub mod Reached
