pub mod Stand
pub mod Submitted
