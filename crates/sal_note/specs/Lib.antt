pub mod Answers
pub mod Boxes
pub mod Clients
pub mod Examples
pub mod Laws
pub mod Queues
