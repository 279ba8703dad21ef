pub mod Laws
pub mod Lawful
pub mod Logs
pub mod Serial
pub mod SerialLaws
