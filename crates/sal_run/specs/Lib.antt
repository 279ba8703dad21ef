pub mod Joined
pub mod Looked
pub mod Ran
pub mod Stands
pub mod Worked
