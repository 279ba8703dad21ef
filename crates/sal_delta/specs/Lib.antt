pub mod Agreed
pub mod ByOps
pub mod Laws
pub mod Merge
pub mod Ordered
pub mod Spots
