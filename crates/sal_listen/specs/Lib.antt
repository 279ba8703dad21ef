pub mod Following
pub mod Given
pub mod Laws
pub mod Mirrors
