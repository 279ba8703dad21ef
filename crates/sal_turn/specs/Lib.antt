pub mod Entries
pub mod Lists
pub mod Rule
pub mod Seats
pub mod Stages
pub mod Tells
pub mod Turns
pub mod Views
