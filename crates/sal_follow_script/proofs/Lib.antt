pub mod Leader
pub mod Fed
pub mod Ends
