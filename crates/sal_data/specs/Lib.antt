pub mod Examples
pub mod Laws
pub mod Members
pub mod Read
pub mod Rising
pub mod Texts
pub mod Walked
pub mod Written
