pub mod Lines
pub mod Named
pub mod Notes
pub mod Places
