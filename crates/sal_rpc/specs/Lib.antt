pub mod Answers
pub mod Examples
pub mod Laws
pub mod Routes
pub mod Routing
