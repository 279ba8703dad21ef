mod ByOps
pub mod Exact
mod Merges
mod Nexts
pub mod InOrder
mod Tops
mod Walks
