pub mod Anew
pub mod Deciding
pub mod Domains
pub mod Opening
pub mod Sound
pub mod Stamps
pub mod Versions
