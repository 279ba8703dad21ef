pub mod Words
pub mod Nodes
pub mod Read
pub mod Written
pub mod Laws
pub mod Examples
