pub mod Playing
pub mod Replies
pub mod Steps
