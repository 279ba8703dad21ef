pub mod Trees
pub mod Plain
pub mod Named
pub mod Tallied
