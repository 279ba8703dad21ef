pub mod FirstRead
pub mod Indices
pub mod Parting
pub mod Told
