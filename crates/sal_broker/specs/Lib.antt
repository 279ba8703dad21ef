pub mod Looks
pub mod Seats
pub mod Tokens
pub mod Turns
