pub mod Walks
pub mod Ends
pub mod Retelling
pub mod Made
pub mod Telling
pub mod Courses
