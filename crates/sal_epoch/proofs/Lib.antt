pub mod Next
pub mod Mounting
