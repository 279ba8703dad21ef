pub mod Few
pub mod Orders
pub mod Own
